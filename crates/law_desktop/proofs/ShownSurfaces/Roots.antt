-- What is done to a surface, and to those that descend from it, changes nothing of the other surfaces that have an xdg_surface: none of them
-- has a parent (xdg-shell.xml, xdg_wm_base.get_xdg_surface; wayland.xml, wl_surface: a surface has one role).
use Rattle.std.proofs.Common.{◌≡◌, ◌≢◌, ℕ, List, [], ◌∷◌, ◌++◌, Bool, true, false, cond, Option, Some, None, refl, ap, sym, subst, ◌∙◌, eq-eqb}
use Rattle.std.specs.Prelude.{◌==◌, ◌&&◌, ◌||◌, filter, find, fold, is_some, not}
use Rattle.std.specs.List.{list_any}
use Rattle.std.specs.Option.{option_and_then, option_map}
use Rattle.std.proofs.lemmas.Bool.{eqb-true, false_from_ne_true, not-true, true≢false}
use Rattle.wl_surface.specs.Request.{Commit, Request}
use Rattle.wl_surface.specs.State.{History, Values, apply, counting, pending, values}
use Rattle.wl_surface.specs.declared.role.Role.{Role}
use Rattle.wl_surface.specs.Surface.{Surface, asking, is_there, new_surface, with_role}
use Rattle.wl_surface.proofs.StateCommits.{commit_takes_all}
use Rattle.wl_surface.specs.Surfaces.{Link, Surfaces, history_in, link_at, with_change, with_new}
use Rattle.wl_surface.specs.Trees.{applied_unless, behaves_synchronised, committed_in, descends_from, desynchronised_in, destroyed_in}
use Rattle.wl_surface.specs.Trees.{ended_in, in_mode, levels, link_of, released_in, unlinked, with_link}
use Rattle.wl_surface.specs.Hanging.{AreNumbered}
use Rattle.wl_surface.specs.TreeLaws.{AreOnceLinked}
use Rattle.wl_surface.proofs.TreesApplying.{applies-descendants}
use Rattle.wl_surface.proofs.Coming.{history-applied}
use Rattle.wl_surface.proofs.Linking.{none-found}
use Rattle.law_desktop.specs.TreeStepsLaws.{KeepsAll, KeepsOthers}
use Rattle.law_desktop.proofs.TreeSteps.Commits.{asked_more, commit-keeps-others, history-asked, role-keeps-all}
use Rattle.law_desktop.proofs.TreeSteps.Descents.{at-top, is-top, no-child-is-top}
use Rattle.law_desktop.proofs.TreeSteps.Ends.{destruction-keeps-others, end-keeps-others}
use Rattle.law_desktop.proofs.TreeSteps.Modes.{mode-keeps-others}
use Rattle.wl_shell.specs.Shell.{Shell, XdgSurface, xdg_of}
use Rattle.spec_desktop.specs.Stacking.{shows_buffer}
use Rattle.spec_desktop.specs.Changing.{unlinked_at}
use Rattle.law_desktop.specs.Apart.{AreApartBy}
use Rattle.law_desktop.specs.Soundness.{IsNoChild}
use Rattle.law_desktop.proofs.Lists.Keys.{found-by, found-passes}
use Rattle.law_desktop.proofs.Lists.Surfaces.{has_id}
use Rattle.law_desktop.proofs.Truth.{and-left, and-right}

-- the surfaces that have an xdg_surface show a buffer as before, or none
abbrev pub ShowAsBefore : Shell → Surfaces → Surfaces → Type 0
ShowAsBefore shell all new = (surface : ℕ) → is_some (xdg_of surface shell) ≡ true → shows_buffer (history_in surface new) ≡ shows_buffer (history_in surface all)

-- ---- what counts

abbrev counted_show : Option (List Request) → Bool
counted_show None = false
counted_show (Some rs) = is_there (values rs).buffer

shows-counted : (o : Option History) → shows_buffer o ≡ counted_show (option_map counting o)
shows-counted None = refl
shows-counted (Some h) = refl

-- where nothing changes that counts
pub all-show : (shell : Shell) (all new : Surfaces) → KeepsAll all new → ShowAsBefore shell all new
all-show shell all new keeps surface has =
    shows-counted (history_in surface new) ∙ ap counted_show (keeps.counts surface) ∙ sym (shows-counted (history_in surface all))

-- one comes, of which nothing was asked
made-shows : (id surface : ℕ) (ss : List Surface) → shows_buffer (option_map (λ (s : Surface). s.history) (find (has_id surface) (ss ++ new_surface id ∷ []))) ≡ shows_buffer
    (option_map (λ (s : Surface). s.history) (find (has_id surface) ss))
made-shows id surface [] = at (id == surface)
  where
    at : (b : Bool) → shows_buffer (option_map (λ (s : Surface). s.history) (cond b (Some (new_surface id)) None)) ≡ false
    at true = refl
    at false = refl
made-shows id surface (s ∷ ss) = at (s.id == surface) (made-shows id surface ss)
  where
    more : Option Surface
    more = find (has_id surface) (ss ++ new_surface id ∷ [])

    at : (b : Bool) → shows_buffer (option_map (λ (s : Surface). s.history) more) ≡ shows_buffer (option_map (λ (s : Surface). s.history) (find (has_id surface) ss))
        → shows_buffer (option_map (λ (s : Surface). s.history) (cond b (Some s) more)) ≡ shows_buffer (option_map (λ (s : Surface). s.history) (cond b (Some s) (find (has_id surface) ss)))
    at true rest = refl
    at false rest = rest

pub made-show : (shell : Shell) (id : ℕ) (all : Surfaces) → ShowAsBefore shell all (with_new id all)
made-show shell id all surface has = made-shows id surface all.surfaces

-- a role is nothing to what was asked
pub role-shows : (shell : Shell) (id : ℕ) (role : Role) (all : Surfaces) → ShowAsBefore shell all (with_change id (with_role role) all)
role-shows shell id role all surface has = ap shows_buffer ((role-keeps-all all id role).0 surface)

-- ---- a surface without a parent is committed

pub not-synchronised : (surface : ℕ) (all : Surfaces) → link_of surface all ≡ None → behaves_synchronised levels all surface ≡ false
unfolding behaves_synchronised
not-synchronised surface all none = rw none refl

pub here-applied : (b c : Bool) (o : Option History) → b ≡ true → c ≡ true → option_map (λ h. cond c (apply h) h) (option_map (λ h. cond b (asked_more Commit h) h) o)
    ≡ option_map (λ h. apply (asked_more Commit h)) o
here-applied true true None e f = refl
here-applied true true (Some h) e f = refl
here-applied true false o e f = absurd (true≢false (sym f))
here-applied false c o e f = absurd (true≢false (sym e))

-- all that was asked of it counts
pub root-committed : (surface : ℕ) (all : Surfaces) → AreOnceLinked all.links → link_of surface all ≡ None
    → history_in surface (committed_in surface all) ≡ option_map (λ h. apply (asked_more Commit h)) (history_in surface all)
root-committed surface all once none =
    ap (λ b. history_in surface (applied_unless b surface (with_change surface (asking Commit) all))) (not-synchronised surface all none)
    ∙ ap (history_in surface) (applies-descendants (with_change surface (asking Commit) all) once 16 surface)
    ∙ history-applied surface (descends_from 16 (with_change surface (asking Commit) all) surface) (with_change surface (asking Commit) all)
    ∙ ap (option_map (λ h. cond (descends_from 16 (with_change surface (asking Commit) all) surface surface) (apply h) h)) (history-asked surface surface Commit all)
    ∙ here-applied (surface == surface) (descends_from 16 (with_change surface (asking Commit) all) surface surface) (history_in surface all) (eq-eqb surface surface refl)
    (at-top 16 (with_change surface (asking Commit) all) surface surface refl)

shows-pending : (o : Option History) → shows_buffer (option_map (λ h. apply (asked_more Commit h)) o) ≡ is_there (option_and_then (λ h. (pending h).buffer) o)
shows-pending None = refl
shows-pending (Some h) = ap (λ (v : Values). is_there v.buffer) (commit_takes_all h.requests 0).0

-- ---- a link ends

pub numbers-apart : (ls : List Link) → AreNumbered ls → AreApartBy (λ number l. l.number == number) ls
numbers-apart [] numbered = tt
numbers-apart (l ∷ ls) numbered = (
  λ key is. none-found (λ k. k.number == key) ls (ap (λ n. list_any (λ (k : Link). k.number == n) ls) (sym (eqb-true l.number key is)) ∙ numbered.0),
  numbers-apart ls numbered.1,
)

none-left : {X : Type 0} (q : X → Bool) (xs : List X) → find q xs ≡ None → filter q xs ≡ []
none-left q [] none = refl
none-left q (x ∷ xs) none = at (q x) none (none-left q xs)
  where
    at : (b : Bool) → cond b (Some x) (find q xs) ≡ None → (find q xs ≡ None → filter q xs ≡ []) → cond b (x ∷ filter q xs) (filter q xs) ≡ []
    at true e rest = absurd (cc)
    at false e rest = rest e

-- the links of this number that live
abbrev lives_at : ℕ → Link → Bool
lives_at number l = not l.has_ended && l.number == number

-- ---- the surfaces that have xdg_surfaces

module _ (all : Surfaces) (shell : Shell) (once : AreOnceLinked all.links) (numbered : AreNumbered all.links)
    (roots : (surface : ℕ) → is_some (xdg_of surface shell) ≡ true → IsNoChild surface all) where
  -- have no parent
  top : (surface : ℕ) → is_some (xdg_of surface shell) ≡ true → link_of surface all ≡ None
  top surface has = no-child-is-top all numbered surface (roots surface has)

  -- so they descend from no other
  away : (id surface : ℕ) → is_some (xdg_of surface shell) ≡ true → id ≢ surface → descends_from levels all id surface ≡ false
  away id surface has other = false_from_ne_true (descends_from levels all id surface) (λ e. other (sym (is-top levels all id surface (top surface has) e)))

  -- what is done to one of them leaves the others
  else-shows : (id : ℕ) (new : Surfaces) → KeepsOthers id all new → (surface : ℕ) → id ≢ surface → is_some (xdg_of surface shell) ≡ true
      → shows_buffer (history_in surface new) ≡ shows_buffer (history_in surface all)
  else-shows id new keeps surface other has = ap shows_buffer (keeps.histories surface (away id surface has other))

  -- what is done to a surface that has no xdg_surface leaves all of them
  others-show : (id : ℕ) (new : Surfaces) → KeepsOthers id all new → xdg_of id shell ≡ None → ShowAsBefore shell all new
  others-show id new keeps none surface has =
      else-shows id new keeps surface (λ same. true≢false (sym has ∙ ap (λ n. is_some (xdg_of n shell)) (sym same) ∙ ap is_some none)) has

  pub committed-else : (id surface : ℕ) → id ≢ surface → is_some (xdg_of surface shell) ≡ true
      → shows_buffer (history_in surface (committed_in id all)) ≡ shows_buffer (history_in surface all)
  committed-else id surface other has = else-shows id (committed_in id all) (commit-keeps-others all once id) surface other has

  -- one that is committed shows what was pending
  pub committed-here : (id : ℕ) → is_some (xdg_of id shell) ≡ true
      → shows_buffer (history_in id (committed_in id all)) ≡ is_there (option_and_then (λ h. (pending h).buffer) (history_in id all))
  committed-here id has = ap shows_buffer (root-committed id all once (top id has)) ∙ shows-pending (history_in id all)

  pub destroyed-show : (id : ℕ) → xdg_of id shell ≡ None → ShowAsBefore shell all (destroyed_in id all)
  destroyed-show id none = others-show id (destroyed_in id all) (destruction-keeps-others all once numbered id) none

  -- The child of a link that is desynchronised: one of them has no parent, so nothing of it was held, and nothing is applied.
  pub mode-shows : (number : ℕ) → ShowAsBefore shell all (desynchronised_in number all)
  mode-shows number = at (link_at number all) refl
    where
      new : Surfaces
      new = with_link number (in_mode false) all

      -- one without a parent isn't held
      free : (l : Link) → is_some (xdg_of l.child shell) ≡ true → released_in (Some l) all new ≡ new
      free l has = ap (λ b. applied_unless (not b || behaves_synchronised levels new l.child) l.child new) (not-synchronised l.child all (top l.child has))

      by : (l : Link) → link_at number all ≡ Some l → (x : Option XdgSurface) → xdg_of l.child shell ≡ x → ShowAsBefore shell all (desynchronised_in number all)
      by l here None none = others-show l.child (desynchronised_in number all) (mode-keeps-others all once number l here) none
      by l here (Some x) there =
          subst (λ (o : Option Link). ShowAsBefore shell all (released_in o all new)) (sym here)
          (subst (λ (n : Surfaces). ShowAsBefore shell all n) (sym (free l (ap is_some there))) (λ surface has. refl))

      at : (o : Option Link) → link_at number all ≡ o → ShowAsBefore shell all (desynchronised_in number all)
      at None here = subst (λ (o : Option Link). ShowAsBefore shell all (released_in o all new)) (sym here) (λ surface has. refl)
      at (Some l) here = by l here (xdg_of l.child shell) refl

  -- a link that lives has none of them as its child, and one that ended changes nothing
  unlinked-show : (number : ℕ) → ShowAsBefore shell all (unlinked number all)
  unlinked-show number = at (find (lives_at number) all.links) refl
    where
      none-child : (l : Link) (x : Option XdgSurface) → xdg_of l.child shell ≡ x → link_at number all ≡ Some l → l.has_ended ≡ false → xdg_of l.child shell ≡ None
      none-child l None e here lives = e
      none-child l (Some x) e here lives = absurd (roots l.child (ap is_some e) number l (record { here = here; lives = lives }) refl)

      at : (o : Option Link) → find (lives_at number) all.links ≡ o → ShowAsBefore shell all (unlinked number all)
      at None none =
          subst (λ (ls : List Link). ShowAsBefore shell all (fold ended_in all ls)) (sym (none-left (lives_at number) all.links none)) (λ surface has. refl)
      at (Some l) found =
          let passes = found-passes (lives_at number) all.links l found in
          let lives : l.has_ended ≡ false = not-true l.has_ended (and-left (not l.has_ended) (l.number == number) passes) in
          let here : link_at number all ≡ Some l =
          found-by (λ n (k : Link). k.number == n) (lives_at number) number all.links l (numbers-apart all.links numbered) found (and-right (not l.has_ended) (l.number == number) passes) in
          others-show l.child (unlinked number all) (end-keeps-others all once numbered number l here).0 (none-child l (xdg_of l.child shell) refl here lives)

  pub unlinked-shows : (link : Option ℕ) → ShowAsBefore shell all (unlinked_at link all)
  unlinked-shows None = λ surface has. refl
  unlinked-shows (Some number) = unlinked-show number
