-- Where input regions are applied that were set last, no message but wl_surface.set_input_region changes which are (wayland.xml,
-- wl_surface.commit and wl_subsurface).
use Rattle.std.proofs.Common.{◌≡◌, ℕ, zero, suc, Bool, true, false, Option, Some, None, List, [], ◌∷◌, ◌++◌, cond, take, refl, ap, sym, subst, ◌∙◌}
use Rattle.std.specs.Prelude.{◌==◌, ◌&&◌, ◌||◌, filter, fold, is_some, not}
use Rattle.std.specs.Option.{option_map}
use Rattle.std.proofs.lemmas.Option.{none-some, same_Some}
use Rattle.spec_desktop.specs.Peer.{Peer}
use Rattle.wl_links.specs.Family.{Tied}
use Rattle.wl_surface.specs.Request.{Commit, Request}
use Rattle.wl_surface.specs.Slots.{HasInputApplied, Numbered, Slots, StandForAll}
use Rattle.wl_surface.specs.State.{History, Values, applied, apply, asked, first_values, held, pending}
use Rattle.wl_surface.specs.Surface.{Surface, applying, asking}
use Rattle.wl_surface.specs.Surfaces.{Link, Surfaces, history_in, link_at, surface_at, with_change, without_surface}
use Rattle.wl_surface.specs.Trees.{applied_tree, applied_unless, behaves_synchronised, children_of, committed_in, desynchronised_in, destroyed_in, ended_in, ending, in_mode, levels, links_with, released_in, unlinked, with_link}
use Rattle.wl_surface.proofs.Coming.{history-without}
use Rattle.wl_surface.proofs.Hanging.{WasAsked, history-changed, was-asked, with_asked}
use Rattle.wl_surface.proofs.StateCommits.{commit_takes_all}
use Rattle.wl_shell.specs.Shell.{xdg_of}
use Rattle.spec_desktop.specs.Objects.{ById}
use Rattle.spec_desktop.specs.Stacking.{Owned}
use Rattle.spec_desktop.specs.Changing.{changed_for, link_with_id, placement_now, tree_committed, unlinked_at}
use Rattle.spec_desktop.specs.Demand.{Demand, CommitTree, EndPopup, EndSubsurface, EndSurface, EndToplevel, SetMode}
use Rattle.spec_desktop.specs.Demanding.{effect_of_commit}
use Rattle.spec_desktop.specs.Desktop.{Desktop, Resident, owned_in}
use Rattle.spec_desktop.specs.Step.{with_peer}
use Rattle.law_desktop.specs.Done.{touched_by}
use Rattle.law_desktop.specs.Owning.{AreKept, by_number}
use Rattle.law_desktop.proofs.Keeping.OwningSurfaces.{surface-read}
use Rattle.law_desktop.proofs.RootsOf.Commits.{effect-surfaces}
use Rattle.law_desktop.proofs.Truth.{there-some}

-- the input region that was set last is the one that is applied
abbrev pub IsSteady : History → Type 0
IsSteady h = ((pending h).input ≡ (applied h).input) × ((held h).input ≡ (applied h).input)

-- ---- one surface

-- a commit sets nothing
take-values : (rs : List Request) (n : ℕ) (v : Values) → fold asked v (take n (rs ++ Commit ∷ [])) ≡ fold asked v (take n rs)
take-values [] zero v = refl
take-values [] (suc zero) v = refl
take-values [] (suc (suc n)) v = refl
take-values (r ∷ rs) zero v = refl
take-values (r ∷ rs) (suc n) v = take-values rs n (asked v r)

values-last : (rs : List Request) (v : Values) → fold asked v (rs ++ Commit ∷ []) ≡ fold asked v rs
values-last [] v = refl
values-last (r ∷ rs) v = values-last rs (asked v r)

-- where it is so of a surface before, it is so after, and the same region is applied
abbrev StaysSteady : History → History → Type 0
StaysSteady h k = IsSteady h → IsSteady k × ((applied k).input ≡ (applied h).input)

apply-steady : (h : History) → StaysSteady h (apply h)
apply-steady h s = ((s.0 ∙ sym s.1, refl), s.1)

commit-steady : (h : History) → StaysSteady h (with_asked Commit h)
commit-steady h s =
    let last : pending (with_asked Commit h) ≡ pending h = values-last h.requests first_values in
    let now : held (with_asked Commit h) ≡ pending h = (commit_takes_all h.requests h.cut).0 in
    let still : applied (with_asked Commit h) ≡ applied h = take-values h.requests h.cut first_values in (
      (
        ap (λ (v : Values). v.input) last ∙ (s.0 ∙ sym (ap (λ (v : Values). v.input) still)),
        ap (λ (v : Values). v.input) now ∙ (s.0 ∙ sym (ap (λ (v : Values). v.input) still)),
      ),
      ap (λ (v : Values). v.input) still,
    )

-- ---- all surfaces of a client

-- what a surface was before
record KeptAs (o : Option History) (k : History) : Type 0 where
  was : History
  here : o ≡ Some was
  keeps : StaysSteady was k

abbrev Keeps : Surfaces → Surfaces → Type 0
Keeps old new = (n : ℕ) (k : History) → history_in n new ≡ Some k → KeptAs (history_in n old) k

keeps-same : (old new : Surfaces) → ((n : ℕ) → history_in n new ≡ history_in n old) → Keeps old new
keeps-same old new same n k e = record { was = k; here = sym (same n) ∙ e; keeps = λ s. (s, refl) }

keeps-on : (old mid new : Surfaces) → Keeps old mid → Keeps mid new → Keeps old new
keeps-on old mid new first second n k e =
    let later = second n k e in
    let before = first n later.was later.here in
    record {
      was = before.was;
      here = before.here;
      keeps = λ s.
          let one = before.keeps s in
          let two = later.keeps one.0 in (two.0, two.1 ∙ one.1);
    }

keeps-change : (id : ℕ) (change : Surface → Surface) (g : History → History) (all : Surfaces) → ((s : Surface) → (change s).id ≡ s.id)
    → ((s : Surface) → (change s).history ≡ g s.history) → ((h : History) → StaysSteady h (g h)) → Keeps all (with_change id change all)
keeps-change id change g all same changes steady n k e =
    let was : WasAsked (history_in n all) g (n == id) k = was-asked (history_in n all) g (n == id) k (sym (history-changed n id change g all same changes) ∙ e) in
    record { was = was.old; here = was.here; keeps = by (n == id) was.old was.now }
  where
    by : (b : Bool) (h : History) → cond b (g h) h ≡ k → StaysSteady h k
    by true h is = subst (λ (x : History). StaysSteady h x) is (steady h)
    by false h is = subst (λ (x : History). StaysSteady h x) is (λ s. (s, refl))

-- ---- a tree is applied

tree-keeps : (n surface : ℕ) (all : Surfaces) → Keeps all (applied_tree n surface all)
unfolding applied_tree
tree-keeps zero surface all = keeps-same all all (λ n. refl)
tree-keeps (suc n) surface all =
    each (λ child done. tree-keeps n child done) (children_of surface all) (with_change surface applying all)
    (keeps-change surface applying apply all (λ s. refl) (λ s. refl) apply-steady)
  where
    each : ((child : ℕ) (done : Surfaces) → Keeps done (applied_tree n child done)) → (ids : List ℕ) (done : Surfaces) → Keeps all done
        → Keeps all (fold (λ done child. applied_tree n child done) done ids)
    each next [] done keeps = keeps
    each next (id ∷ ids) done keeps = each next ids (applied_tree n id done) (keeps-on all done (applied_tree n id done) keeps (next id done))

unless-keeps : (b : Bool) (surface : ℕ) (all : Surfaces) → Keeps all (applied_unless b surface all)
unless-keeps true surface all = keeps-same all all (λ n. refl)
unless-keeps false surface all = tree-keeps levels surface all

commit-keeps : (surface : ℕ) (all : Surfaces) → Keeps all (committed_in surface all)
commit-keeps surface all =
    let asked-so = with_change surface (asking Commit) all in
    keeps-on all asked-so (committed_in surface all) (keeps-change surface (asking Commit) (with_asked Commit) all (λ s. refl) (λ s. refl) commit-steady)
    (unless-keeps (behaves_synchronised levels all surface) surface asked-so)

-- ---- a link changes

desync-keeps : (number : ℕ) (all : Surfaces) → Keeps all (desynchronised_in number all)
desync-keeps number all = at (link_at number all)
  where
    at : (o : Option Link) → Keeps all (released_in o all (with_link number (in_mode false) all))
    at None = keeps-same all (with_link number (in_mode false) all) (λ n. refl)
    at (Some l) =
        keeps-on all (with_link number (in_mode false) all) (released_in (Some l) all (with_link number (in_mode false) all))
        (keeps-same all (with_link number (in_mode false) all) (λ n. refl))
        (unless-keeps (not (behaves_synchronised levels all l.child) || behaves_synchronised levels (with_link number (in_mode false) all) l.child) l.child
        (with_link number (in_mode false) all))

link-ends : (all : Surfaces) (l : Link) → Keeps all (ended_in all l)
link-ends all l =
    keeps-on all (with_link l.number ending all) (ended_in all l) (keeps-same all (with_link l.number ending all) (λ n. refl))
    (tree-keeps levels l.child (with_link l.number ending all))

links-end : (ls : List Link) (all done : Surfaces) → Keeps all done → Keeps all (fold ended_in done ls)
links-end [] all done keeps = keeps
links-end (l ∷ ls) all done keeps = links-end ls all (ended_in done l) (keeps-on all done (ended_in done l) keeps (link-ends done l))

unlink-keeps : (number : ℕ) (all : Surfaces) → Keeps all (unlinked number all)
unlink-keeps number all = links-end (filter (λ (l : Link). not l.has_ended && (l.number == number)) all.links) all all (keeps-same all all (λ n. refl))

-- ---- a surface goes

without-keeps : (id : ℕ) (all : Surfaces) → Keeps all (without_surface id all)
without-keeps id all n k e = at (n == id) (sym (history-without n id all) ∙ e)
  where
    at : (b : Bool) → cond b None (history_in n all) ≡ Some k → KeptAs (history_in n all) k
    at true e = absurd (none-some k e)
    at false e = record { was = k; here = e; keeps = λ s. (s, refl) }

end-keeps : (surface : ℕ) (all : Surfaces) → Keeps all (destroyed_in surface all)
end-keeps surface all =
    let left = fold ended_in all (links_with surface all) in
    keeps-on all left (destroyed_in surface all) (links-end (links_with surface all) all all (keeps-same all all (λ n. refl))) (without-keeps surface left)

-- ---- what a message does that touches a surface

unlinked-keeps : (o : Option ℕ) (all : Surfaces) → Keeps all (unlinked_at o all)
unlinked-keeps None all = keeps-same all all (λ n. refl)
unlinked-keeps (Some number) all = unlink-keeps number all

touched-keeps : (c : ℕ) (demand : Demand) (p : Peer) (r : Resident) (d : Desktop) (id : ℕ) → touched_by demand r ≡ Some id
    → Keeps r.owned.surfaces (changed_for c demand (with_peer p r) d).owned.surfaces
touched-keeps c (CommitTree surface) p r d id e =
    let s = with_peer p r in
    subst (λ (all : Surfaces). Keeps r.owned.surfaces all)
    (sym (effect-surfaces (placement_now c s d) surface (effect_of_commit s surface) (xdg_of surface s.owned.shell) (tree_committed surface s)))
    (commit-keeps surface r.owned.surfaces)
touched-keeps c (EndSurface surface) p r d id e = end-keeps surface r.owned.surfaces
touched-keeps c (EndSubsurface object) p r d id e = unlinked-keeps (link_with_id object (with_peer p r)) r.owned.surfaces
touched-keeps c (SetMode link true) p r d id e = absurd (none-some id e)
touched-keeps c (SetMode link false) p r d id e = desync-keeps link r.owned.surfaces
touched-keeps c (EndToplevel object xdg top) p r d id e = keeps-same r.owned.surfaces r.owned.surfaces (λ n. refl)
touched-keeps c (EndPopup object xdg) p r d id e = keeps-same r.owned.surfaces r.owned.surfaces (λ n. refl)
touched-keeps c demand p r d id e = absurd (none-some id e)

-- ---- by what is kept

-- where nothing is kept of an input region that isn't applied, each surface has the one applied that was set last
pub all-steady : (numbers : ById ℕ) (slots : Slots) (tied : Tied) (all : Surfaces) → AreKept numbers slots tied all
    → ((named : Numbered) → StandForAll slots named → (number : ℕ) → HasInputApplied (named number))
    → (n : ℕ) (h : History) → history_in n all ≡ Some h → IsSteady h
all-steady numbers slots tied all kept applied-so n h e = at (surface_at n all) refl e
  where
    at : (o : Option Surface) → surface_at n all ≡ o → option_map (λ (s : Surface). s.history) o ≡ Some h → IsSteady h
    at None here e = absurd (none-some h e)
    at (Some s) here e =
        let number = there-some (numbers n) (kept.numbered n ∙ ap is_some here) in
        subst (λ (x : History). IsSteady x) (same_Some s.history h e)
        (subst (λ (o : Option Surface). HasInputApplied o) (surface-read numbers slots tied all kept n number.0 number.1 ∙ here)
        (applied-so (by_number numbers all) kept.stand number.0))

-- Each surface that is left takes input where it did.
abbrev pub TakeSame : Surfaces → Surfaces → Type 0
TakeSame old new =
    (n : ℕ) (h k : History) → history_in n old ≡ Some h → history_in n new ≡ Some k → (applied k).input ≡ (applied h).input

same-of : (old new : Surfaces) → Keeps old new → ((n : ℕ) (h : History) → history_in n old ≡ Some h → IsSteady h) → TakeSame old new
same-of old new keeps steady n h k before after =
    let was = keeps n k after in
    (was.keeps (steady n was.was was.here)).1 ∙ ap (λ (x : History). (applied x).input) (same_Some was.was h (sym was.here ∙ before))

pub done-takes : (c : ℕ) (demand : Demand) (p : Peer) (r : Resident) (d e : Desktop) (id : ℕ) → touched_by demand r ≡ Some id → owned_in d c ≡ r.owned
    → owned_in e c ≡ (changed_for c demand (with_peer p r) d).owned → ((n : ℕ) (h : History) → history_in n r.owned.surfaces ≡ Some h → IsSteady h)
    → TakeSame (owned_in d c).surfaces (owned_in e c).surfaces
done-takes c demand p r d e id touched was is steady =
    subst (λ (o : Owned). TakeSame o.surfaces (owned_in e c).surfaces) (sym was)
    (subst (λ (o : Owned). TakeSame r.owned.surfaces o.surfaces) (sym is)
    (same-of r.owned.surfaces (changed_for c demand (with_peer p r) d).owned.surfaces (touched-keeps c demand p r d id touched) steady))
