-- The end of a toplevel changes its own windows alone, though it dismisses popups.
use Rattle.std.proofs.Common.{◌≡◌, ℕ, Bool, true, false, cond, List, Option, Some, None, [], ◌∷◌, map, refl, ap, sym, subst, ◌∙◌, inl, inr}
use Rattle.std.specs.Prelude.{◌==◌, ◌&&◌, ◌||◌, ◌⊎◌, ◌≢◌, find, fold, not}
use Rattle.std.specs.List.{All, list_any}
use Rattle.std.specs.Option.{option_and_then, option_map, option_map_or}
use Rattle.std.proofs.lemmas.Bool.{and_right, eqb-false, eqb-true, false_from_ne_true}
use Rattle.std.proofs.lemmas.Option.{same_Some}
use Rattle.wl_surface.specs.Surfaces.{Surfaces}
use Rattle.wl_shell.specs.Popups.{Popped, dismiss, dismissed_after, dismissed_among, dismissed_with, dismissing, is_among, is_mapped_stage, is_parent_of, is_popup_mapped, is_toplevel, orphan}
use Rattle.wl_shell.specs.Popups.{orphaning}
use Rattle.wl_shell.specs.Popups.{popped_kind, popped_of, popped_role, popup_changed, popups_of, with_popup, with_popup_role}
use Rattle.wl_shell.specs.Shell.{IsPopup, Kind, Popup, RoleObject, Shell, Toplevel, XdgSurface, with_change, without_role, xdg_at}
use Rattle.spec_desktop.specs.Popups.{stacked_popup, surface_at_xdg}
use Rattle.spec_desktop.specs.Stacking.{Standing, is_of, root_of, without_surface_of}
use Rattle.spec_desktop.specs.Windows.{Window}
use Rattle.spec_desktop.specs.Desktop.{Desktop, owned_in}
use Rattle.law_desktop.specs.Soundness.{has_surface}
use Rattle.law_desktop.proofs.Lists.Keys.{gone}
use Rattle.law_desktop.proofs.Lists.Standings.{of-it}
use Rattle.law_desktop.proofs.Marks.Stacks.{equal-numbers}
use Rattle.law_desktop.proofs.Soundness.Windows.{In}
use Rattle.law_desktop.specs.TreeStepsLaws.{KeepsAll}
use Rattle.law_desktop.specs.Changes.{HasTrees}
use Rattle.law_desktop.specs.ToplevelRoots.{has_parent_in, is_on_one}
use Rattle.law_desktop.specs.StackedWith.{popup_of, stacked_roots}
use Rattle.law_desktop.specs.Toplevel.{AreInTurn, ChangesToplevel, SameRoot, windows_with, windows_with_standing}
use Rattle.law_desktop.proofs.RootsOf.Away.{IsOnRoot, root-or-popup}
use Rattle.law_desktop.proofs.RootsOf.Change.{OthersAreKept, one-out}
use Rattle.law_desktop.proofs.RootsOf.Commits.{no-popped, none-popped}
use Rattle.law_desktop.proofs.RootsOf.Dismissed.{numbered-by, numbered-role}
use Rattle.law_desktop.proofs.RootsOf.Kept.{ToplevelIsKept, foreign-kept, popups_in, surfaces_in}
use Rattle.law_desktop.proofs.RootsOf.Left.{IsLeft, dismissed-off, left, since-geometry}
use Rattle.law_desktop.proofs.RootsOf.Painted.{one-kept}
use Rattle.law_desktop.proofs.RootsOf.Popped.{AreNumberedAlike, IsPopped, IsThere, IsThrough, KeepsNumbers, all-there, all-through, through}
use Rattle.law_desktop.proofs.RootsOf.Requests.{same-keeps}
use Rattle.law_desktop.proofs.RootsOf.Same.{apart-all, turn-in}
use Rattle.law_desktop.proofs.RootsOf.Shells.{all-popped-of}
use Rattle.law_desktop.proofs.RootsOf.Stacked.{all-found, found-any}
use Rattle.law_desktop.proofs.RootsOf.Staying.{each-all, in_parent}
use Rattle.law_desktop.proofs.RootsOf.Trees.{any-tree}
use Rattle.law_desktop.proofs.RootsOf.Turns.{all-from, none-in-turn, popup_surfaces}
use Rattle.law_desktop.proofs.Truth.{differ}
use Rattle.law_desktop.proofs.Lists.Each.{Each, each-both, each-map}
use Rattle.law_desktop.proofs.Lists.Tests.{none-any}

-- ---- popups

through-numbered : (ps qs rs : List Popped) → AreNumberedAlike ps qs → AreNumberedAlike qs rs → AreNumberedAlike ps rs
through-numbered [] [] rs e f = f
through-numbered (p ∷ ps) (q ∷ []) [] e f = absurd f
through-numbered (p ∷ ps) (q ∷ []) (r ∷ []) e f = (f.0 ∙ e.0, e.1)
through-numbered (p ∷ ps) (q ∷ []) (r ∷ s ∷ rs) e f = absurd f
through-numbered ps qs rs e f = absurd e

abbrev AreUnmapped : List Popped → Type 0
AreUnmapped ps = Each (λ q. is_popup_mapped q ≡ false) ps

module _ (xdg : ℕ) where
  orphan-number : (p : Popup) → (orphan xdg p).number ≡ p.number
  orphan-number p = at (is_parent_of xdg p)
    where
      at : (b : Bool) → (cond b (record p { parent = None }) p).number ≡ p.number
      at true = refl
      at false = refl

  orphan-gone : (p : Popup) → p.is_dismissed ≡ true → (orphan xdg p).is_dismissed ≡ true
  orphan-gone p e = at (is_parent_of xdg p)
    where
      at : (b : Bool) → (cond b (record p { parent = None }) p).is_dismissed ≡ true
      at true = e
      at false = e

  and-none : (a : Bool) → (a && false) ≡ false
  and-none true = refl
  and-none false = refl

  unmapped-kind : (y : XdgSurface) (object : RoleObject) (k : Kind) → AreUnmapped (popped_kind y object (with_popup (orphan xdg) (with_popup dismiss k)))
  unmapped-kind y object Toplevel = tt
  unmapped-kind y object (IsPopup popup) =
      (ap (λ b. is_mapped_stage object.stage && not b) (orphan-gone (dismiss popup) refl) ∙ and-none (is_mapped_stage object.stage), tt)

  unmapped-role : (y : XdgSurface) (o : Option RoleObject) → AreUnmapped (popped_role y (option_map (with_popup_role (orphan xdg)) (option_map (with_popup_role dismiss) o)))
  unmapped-role y None = tt
  unmapped-role y (Some object) = unmapped-kind y (with_popup_role (orphan xdg) (with_popup_role dismiss object)) object.kind

  -- a popup of another parent is no orphan
  orphan-same : (y : XdgSurface) (p : Popped) → popped_of y ≡ p ∷ [] → is_parent_of xdg p.popup ≡ false → popup_changed (orphan xdg) y ≡ y
  orphan-same y p its other = ap (λ (o : Option RoleObject). record y { role = o }) (role y.role its)
    where
      first : Popup → List Popped → Popup
      first q [] = q
      first q (r ∷ rs) = r.popup

      kind : (object : RoleObject) (k : Kind) → popped_kind y object k ≡ p ∷ [] → with_popup (orphan xdg) k ≡ k
      kind object Toplevel e = refl
      kind object (IsPopup popup) e =
          ap IsPopup (ap (λ b. cond b (record popup { parent = None }) popup) (ap (is_parent_of xdg) (ap (first popup) e) ∙ other))

      role : (o : Option RoleObject) → popped_role y o ≡ p ∷ [] → option_map (with_popup_role (orphan xdg)) o ≡ o
      role None e = refl
      role (Some object) e = ap (λ (k : Kind). Some (record object { kind = k })) (kind object object.kind e)

-- each that passes is dismissed
module _ (is : Popped → Bool) where
  among-stays : (x : ℕ) (ids : List ℕ) (ps : List Popped) → is_among x ids ≡ true → is_among x (fold (dismissed_after is) ids ps) ≡ true
  among-stays x ids [] e = e
  among-stays x ids (p ∷ ps) e = among-stays x (dismissed_after is ids p) ps (at (is p || list_any (λ id. is_parent_of id p.popup) ids))
    where
      later : (a : Bool) → (a || is_among x ids) ≡ true
      later true = refl
      later false = e

      at : (b : Bool) → is_among x (cond b (p.xdg.id ∷ ids) ids) ≡ true
      at true = later (p.xdg.id == x)
      at false = e

  all-dismissed : (ids : List ℕ) (ps : List Popped) → Each (λ p. is p ≡ true → is_among p.xdg.id (fold (dismissed_after is) ids ps) ≡ true) ps
  all-dismissed ids [] = tt
  all-dismissed ids (p ∷ ps) = (
    λ e. among-stays p.xdg.id (dismissed_after is ids p) ps
        (ap (λ b. is_among p.xdg.id (cond (b || list_any (λ id. is_parent_of id p.popup) ids) (p.xdg.id ∷ ids) ids)) e
        ∙ ap (λ b. b || is_among p.xdg.id ids) (equal-numbers p.xdg.id p.xdg.id refl)),
    all-dismissed (dismissed_after is ids p) ps,
  )

-- ---- a toplevel goes

module _ (c xdg t : ℕ) (d e : Desktop) (had : HasTrees d) (has : HasTrees e) (others : (other : ℕ) → other ≢ c → owned_in e other ≡ owned_in d other) (x : XdgSurface)
    (here : IsThere (owned_in d c).shell x) (id-is : x.id ≡ xdg) (own : x.surface ≡ t) (role : is_toplevel (Some x) ≡ true) (surfaces : surfaces_in e c ≡ surfaces_in d c)
    (shell : (owned_in e c).shell ≡ with_change xdg without_role (orphaning xdg (dismissing (λ p. is_parent_of xdg p.popup) (owned_in d c).shell)))
    (stack : e.standing ≡ without_surface_of c t d.standing) where
  abbrev is : Popped → Bool
  is p = is_parent_of xdg p.popup

  abbrev sh : Shell
  sh = (owned_in d c).shell

  abbrev ids : List ℕ
  ids = dismissed_with (λ p. is_parent_of xdg p.popup) (owned_in d c).shell

  abbrev last : XdgSurface → XdgSurface
  last y = cond (y.id == xdg) (without_role y) y

  abbrev out : XdgSurface → XdgSurface
  out y = last (popup_changed (orphan xdg) (dismissed_among ids y))

  out-shell : (owned_in e c).shell ≡ map out (owned_in d c).shell
  out-shell = shell ∙ thrice (owned_in d c).shell
    where
      thrice : (ys : Shell) → map last (map (popup_changed (orphan xdg)) (map (dismissed_among ids) ys)) ≡ map out ys
      thrice [] = refl
      thrice (y ∷ ys) = ap (λ zs. out y ∷ zs) (thrice ys)

  not-popped : popped_of x ≡ []
  not-popped = no-popped x role

  -- the xdg_surface of the id is the toplevel's
  it-is : (y : XdgSurface) → IsThere sh y → (y.id == xdg) ≡ true → y ≡ x
  it-is y there same = same_Some y x (sym there.by_id ∙ (ap (λ n. xdg_at n sh) (eqb-true y.id xdg same ∙ sym id-is) ∙ here.by_id))

  among-id : (y : XdgSurface) → (dismissed_among ids y).id ≡ y.id
  among-id y = at (is_among y.id ids)
    where
      at : (b : Bool) → (cond b (popup_changed dismiss y) y).id ≡ y.id
      at true = refl
      at false = refl

  out-numbers : KeepsNumbers out (owned_in d c).shell
  out-numbers = record {
    ids = λ y. id-last (popup_changed (orphan xdg) (dismissed_among ids y)) (y.id) (among-id y);
    surfaces = λ y. surface-last y (is_among y.id ids);
    alike = each-map (IsThere sh) (λ y. AreNumberedAlike (popped_of y) (popped_of (out y))) (λ y there. alike y there (y.id == xdg) refl) sh (all-there sh (had.ids_apart c) (had.xdg_apart c));
  }
    where
      id-last : (z : XdgSurface) (n : ℕ) → z.id ≡ n → (last z).id ≡ n
      id-last z n e = at (z.id == xdg)
        where
          at : (b : Bool) → (cond b (without_role z) z).id ≡ n
          at true = e
          at false = e

      surface-last : (y : XdgSurface) (b : Bool) → (last (popup_changed (orphan xdg) (cond b (popup_changed dismiss y) y))).surface ≡ y.surface
      surface-last y b = at (popup_changed (orphan xdg) (cond b (popup_changed dismiss y) y)) (before b)
        where
          before : (b : Bool) → (cond b (popup_changed dismiss y) y).surface ≡ y.surface
          before true = refl
          before false = refl

          at : (z : XdgSurface) → z.surface ≡ y.surface → (last z).surface ≡ y.surface
          at z e = by (z.id == xdg)
            where
              by : (b : Bool) → (cond b (without_role z) z).surface ≡ y.surface
              by true = e
              by false = e

      dismissed-alike : (y : XdgSurface) (b : Bool) → AreNumberedAlike (popped_of y) (popped_of (cond b (popup_changed dismiss y) y))
      dismissed-alike y true = numbered-by y (popup_changed dismiss y) dismiss (λ p. refl) y.role
      dismissed-alike y false = numbered-role y y y.role

      alike : (y : XdgSurface) → IsThere sh y → (b : Bool) → (y.id == xdg) ≡ b → AreNumberedAlike (popped_of y) (popped_of (out y))
      alike y there b f =
          subst (λ b. AreNumberedAlike (popped_of y) (popped_of (cond b (without_role (popup_changed (orphan xdg) (dismissed_among ids y))) (popup_changed (orphan xdg) (dismissed_among ids y)))))
          (sym (ap (λ n. n == xdg) (among-id y) ∙ f)) (at b f)
        where
          at : (b : Bool) → (y.id == xdg) ≡ b
              → AreNumberedAlike (popped_of y) (popped_of (cond b (without_role (popup_changed (orphan xdg) (dismissed_among ids y))) (popup_changed (orphan xdg) (dismissed_among ids y))))
          at true f = subst (λ (ps : List Popped). AreNumberedAlike ps []) (sym (ap popped_of (it-is y there f) ∙ not-popped)) tt
          at false f =
              through-numbered (popped_of y) (popped_of (dismissed_among ids y)) (popped_of (popup_changed (orphan xdg) (dismissed_among ids y))) (dismissed-alike y (is_among y.id ids))
              (numbered-by (dismissed_among ids y) (popup_changed (orphan xdg) (dismissed_among ids y)) (orphan xdg) (orphan-number xdg) (dismissed_among ids y).role)

  out-since : (y : XdgSurface) → (out y).since ≡ y.since
  out-since y = at (popup_changed (orphan xdg) (dismissed_among ids y)) (before (is_among y.id ids))
    where
      before : (b : Bool) → (cond b (popup_changed dismiss y) y).since ≡ y.since
      before true = refl
      before false = refl

      at : (z : XdgSurface) → z.since ≡ y.since → (last z).since ≡ y.since
      at z e = by (z.id == xdg)
        where
          by : (b : Bool) → (cond b (without_role z) z).since ≡ y.since
          by true = e
          by false = e

  unpopped : popup_of c t d ≡ None
  unpopped = subst (λ n. popup_of c n d ≡ None) own (none-popped c d had x here not-popped)

  -- a popup of another id that isn't dismissed stays
  stays : (p : Popped) → IsPopped sh p → is_among p.xdg.id ids ≡ false → (is p ≡ true → is_among p.xdg.id ids ≡ true) → out p.xdg ≡ p.xdg
  stays p popped not-among dismissed =
      ap (λ y. last (popup_changed (orphan xdg) y)) (ap (λ b. cond b (popup_changed dismiss p.xdg) p.xdg) not-among)
      ∙ (ap last (orphan-same xdg p.xdg p popped.its (false_from_ne_true (is p) (λ f. differ (sym not-among ∙ dismissed f))))
      ∙ ap (λ b. cond b (without_role p.xdg) p.xdg) (false_from_ne_true (p.xdg.id == xdg) (λ f. never (sym not-popped ∙ (ap popped_of (sym (it-is p.xdg popped.there f)) ∙ popped.its)))))
    where
      never : [] ≡ p ∷ [] → ⊥
      never e = absurd (cc)

  gone-unmapped : (p : Popped) → is_among p.xdg.id ids ≡ true → AreUnmapped (popped_of (out p.xdg))
  gone-unmapped p f =
      subst (λ y. AreUnmapped (popped_of (last (popup_changed (orphan xdg) y)))) (sym (ap (λ b. cond b (popup_changed dismiss p.xdg) p.xdg) f)) (at (p.xdg.id == xdg))
    where
      at : (b : Bool) → AreUnmapped (popped_of (cond b (without_role (popup_changed (orphan xdg) (popup_changed dismiss p.xdg))) (popup_changed (orphan xdg) (popup_changed dismiss p.xdg))))
      at true = tt
      at false = unmapped-role xdg (popup_changed (orphan xdg) (popup_changed dismiss p.xdg)) p.xdg.role

  -- another toplevel
  module _ (s : Standing) (found : find (is_of s.client s.surface) d.standing ≡ Some s) (is-c : s.client ≡ c) (other : is_of c t s ≡ false) where
    outside : In x.surface (stacked_roots d s) ≡ false
    outside =
        false_from_ne_true (In x.surface (stacked_roots d s))
        (λ there. at (root-or-popup (surfaces_in d s.client) x.surface (root_of (owned_in d) s ∷ []) (popups_in d s.client) there))
      where
        first : (a : Bool) → (a || false) ≡ true → a ≡ true
        first true g = refl
        first false g = g

        at : (In x.surface (root_of (owned_in d) s ∷ []) ≡ true) ⊎ IsOnRoot (stacked_roots d s) (popups_in d s.client) x.surface → ⊥
        at (inl there) = differ (sym other ∙ of-it c t s is-c (eqb-true s.surface x.surface (first (s.surface == x.surface) there) ∙ own))
        at (inr on) =
            differ (sym (none-any (has_surface x.surface) (popups_in d c) (none-popped c d had x here not-popped))
            ∙ subst (λ n. list_any (has_surface x.surface) (popups_in d n) ≡ true) is-c on.there)

    base : (p : Popped) → IsPopped sh p → is_parent_of xdg p.popup ≡ true → is_on_one (stacked_roots d s) (stacked_popup (owned_in d c) p) ≡ false
    base p popped e = and_right (is_popup_mapped p) (has_parent_in (stacked_roots d s) (stacked_popup (owned_in d c) p)) (at p.popup.parent e)
      where
        at : (o : Option ℕ) → option_map_or (λ parent. parent == xdg) o false ≡ true → in_parent (option_and_then (λ id. surface_at_xdg id sh) o) (stacked_roots d s) ≡ false
        at None f = absurd (differ f)
        at (Some n) f =
            ap (λ o. in_parent (option_map (λ (y : XdgSurface). y.surface) o) (stacked_roots d s)) (ap (λ m. xdg_at m sh) (eqb-true n xdg f ∙ sym id-is) ∙ here.by_id) ∙ outside

    one-left : (p : Popped) → IsPopped sh p × IsThrough out p × (is p ≡ true → is_among p.xdg.id ids ≡ true)
        → (is_among p.xdg.id ids ≡ true → is_on_one (stacked_roots d s) (stacked_popup (owned_in d c) p) ≡ false)
        → IsLeft c d e had out out-numbers out-shell surfaces (is_on_one (stacked_roots d s)) p
    one-left p known off = at (is_among p.xdg.id ids) refl
      where
        at : (b : Bool) → is_among p.xdg.id ids ≡ b → IsLeft c d e had out out-numbers out-shell surfaces (is_on_one (stacked_roots d s)) p
        at true f =
            inr (
              off f,
              ap (λ b. b && has_parent_in (stacked_roots d s) (stacked_popup (owned_in e c) (through out p)))
                  (subst (λ (ps : List Popped). AreUnmapped ps) known.1.all (gone-unmapped p f)).0,
            )
        at false f = inl (stays p known.0 f known.2)

    other-kept : ToplevelIsKept d e s
    other-kept =
        one-kept c d e had others (λ y shows. any-tree c d e had (subst (λ (all : Surfaces). KeepsAll (surfaces_in d c) all) (sym surfaces) (same-keeps (surfaces_in d c))) y) s found is-c
        (since-geometry c d e had out out-numbers out-shell surfaces out-since s.surface)
        (left c d e had out out-numbers out-shell surfaces (is_on_one (stacked_roots d s))
        (each-both (λ p. IsPopped sh p × IsThrough out p × (is p ≡ true → is_among p.xdg.id ids ≡ true))
        (λ p. is_among p.xdg.id ids ≡ true → is_on_one (stacked_roots d s) (stacked_popup (owned_in d c) p) ≡ false)
        (IsLeft c d e had out out-numbers out-shell surfaces (is_on_one (stacked_roots d s))) one-left (popups_of sh)
        (each-both (IsPopped sh) (λ p. IsThrough out p × (is p ≡ true → is_among p.xdg.id ids ≡ true))
        (λ p. IsPopped sh p × IsThrough out p × (is p ≡ true → is_among p.xdg.id ids ≡ true)) (λ p a b. (a, b.0, b.1)) (popups_of sh) (all-popped-of c d had)
        (each-both (IsThrough out) (λ p. is p ≡ true → is_among p.xdg.id ids ≡ true) (λ p. IsThrough out p × (is p ≡ true → is_among p.xdg.id ids ≡ true)) (λ p a b. (a, b)) (popups_of sh)
        (all-through out sh out-numbers) (all-dismissed is [] (popups_of sh))))
        (dismissed-off c d had s (subst (λ n. list_any (is_of n s.surface) d.standing ≡ true) is-c (found-any (is_of s.client s.surface) d.standing s found)) is-c is base)))

  others-kept : OthersAreKept c t d e
  others-kept =
      each-map (λ s. find (is_of s.client s.surface) d.standing ≡ Some s) (λ s. is_of c t s ≡ false → ToplevelIsKept d e s) (λ s found other. at s found other (s.client == c) refl) d.standing
      (all-found d.standing had.sound.apart)
    where
      at : (s : Standing) → find (is_of s.client s.surface) d.standing ≡ Some s → is_of c t s ≡ false → (b : Bool) → (s.client == c) ≡ b → ToplevelIsKept d e s
      at s found other true f = other-kept s found (eqb-true s.client c f) other
      at s found other false f = foreign-kept d e s (others s.client (eqb-false s.client c f))

  -- nothing is stacked with it afterwards
  nothing : windows_with c t e ≡ []
  nothing = ap (windows_with_standing e) (ap (find (is_of c t)) stack ∙ gone (is_of c t) d.standing)

  pub toplevel-end-changes : ChangesToplevel c t d e
  toplevel-end-changes =
      one-out c t d e had.sound has.sound others-kept (t ∷ popup_surfaces (popups_in d c))
      (turn-in c t d (popup_surfaces (popups_in d c)) (all-from (popup_surfaces (popups_in d c)))
      (apart-all c t d had.sound (none-any (has_surface t) (popups_in d c) unpopped)))
      (subst (λ (ws : List Window). AreInTurn (t ∷ popup_surfaces (popups_in d c)) ws) (sym nothing) (none-in-turn (t ∷ popup_surfaces (popups_in d c))))
      (each-all (λ w. All (SameRoot w) (windows_with c t d)) (windows_with c t e)
      (subst (λ (ws : List Window). Each (λ w. All (SameRoot w) (windows_with c t d)) ws) (sym nothing) tt)) stack
