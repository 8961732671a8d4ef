-- The links and the surfaces of a client hang together, whatever is done to them.
use Rattle.std.proofs.Common.{◌≡◌, ℕ, List, [], ◌∷◌, Bool, true, false, cond, Option, Some, None, fold, refl, ap, sym, subst, ◌∙◌, arith}
use Rattle.std.specs.Prelude.{◌==◌, ◌&&◌, ◌||◌, filter, find, if◌then◌else◌, is_some, not, unwrap_or}
use Rattle.std.specs.List.{list_any}
use Rattle.std.specs.Option.{option_map}
use Rattle.std.specs.Ordering.{is_eq, nat_cmp}
use Rattle.std.proofs.Math.Path.{fun_ext}
use Rattle.std.proofs.lemmas.Bool.{eqb-true, false_from_ne_true, ne_eqb, true≢false}
use Rattle.std.proofs.lemmas.Bool.Decides.{nat_tests}
use Rattle.std.proofs.lemmas.Option.{none-some}
use Rattle.wl_links.specs.Stacks.{Stacks, added, moved}
use Rattle.wl_links.specs.declared.link.Link.{Link as KeptLink}
use Rattle.wl_links.specs.Family.{Tied, at_parent, changed_at, childless, committed, joined, kept_in, links_in, pending_as, stacks_in}
use Rattle.wl_surface.specs.declared.role.Role.{Role}
use Rattle.wl_surface.specs.Request.{AddChild, Child, Commit, Itself, Member, PlaceAbove, PlaceBelow, Request, SetPosition}
use Rattle.wl_surface.specs.State.{History, above, below, is_commit, is_member, order, placed, without}
use Rattle.wl_surface.specs.Surface.{Surface, asking, new_surface, with_role}
use Rattle.wl_surface.specs.Surfaces.{Link, Surfaces, history_in, link_at, no_surfaces, surface_at, with_change, with_new, without_surface}
use Rattle.wl_surface.specs.Trees.{applied_tree, applied_unless, behaves_synchronised, committed_in, descends_from, destroyed_in, ended_in, ending, in_mode, levels, link_of, linked}
use Rattle.wl_surface.specs.Trees.{released_in, with_link}
use Rattle.wl_surface.specs.Hanging.{AreTied, Hang, kids_of, stacks_at, stacks_by}
use Rattle.wl_surface.specs.TreeLaws.{ended_with, applied_where, is_live_of}
use Rattle.wl_surface.specs.Stacks.{Kids, has_child, is_about_children}
use Rattle.wl_surface.proofs.TreesApplying.{applies-descendants}
use Rattle.wl_surface.proofs.Changing.{KeepsLink, each-tied, keeps-where}
use Rattle.wl_surface.proofs.Coming.{creates-surface, tied-applied, tied-without}
use Rattle.wl_surface.proofs.TreesEnding.{end_one, ends-links, touches}
use Rattle.wl_surface.proofs.Hanging.{asks-alone, commits-stack, committed-same, tied-changed, with_asked}
use Rattle.wl_surface.proofs.Joining.{joins-child}
use Rattle.wl_surface.proofs.Linking.{keeps-ending}
use Rattle.wl_surface.proofs.Placing.{any-above, any-below, any-without, kept-link, kept_of, moves-child}
use Rattle.wl_surface.proofs.Stacking.{order-last, position-last}
use Rattle.spec_desktop.specs.Changing.{unlinked_at}
use Rattle.spec_desktop.specs.Desktop.{Resident, Subsurface, client_at, owned_of}
use Rattle.law_desktop.specs.Soundness.{IsLive}
use Rattle.law_desktop.proofs.Lists.Keys.{found-by, found-none, found-passes, new-elsewhere}
use Rattle.law_desktop.proofs.Marks.Stacks.{equal-numbers}
use Rattle.law_desktop.proofs.Soundness.Moves.{destroyed-live}
use Rattle.law_desktop.proofs.Soundness.Orderly.{IsAskable, IsForest, IsOfParent}
use Rattle.law_desktop.proofs.Soundness.Standing.{found-first}
use Rattle.law_desktop.specs.Roots.{SurfacesAreTied}
use Rattle.law_desktop.proofs.XdgRoots.Keeping.{IsFree, Keeps, messages-hold}
use Rattle.law_desktop.proofs.XdgRoots.Named.{IsSettable}
use Rattle.law_desktop.proofs.XdgRoots.Runs.{HoldsAt, lasts-hold}
use Rattle.law_desktop.proofs.Truth.{and-left, and-right}

-- ---- what hangs together can be kept so

key-same : (a k : ℕ) → is_eq (nat_cmp a k) ≡ (a == k)
key-same a k = at (a == k) refl
  where
    at : (b : Bool) → (a == k) ≡ b → is_eq (nat_cmp a k) ≡ b
    at true e = grind (arith, nat_tests)
    at false e = grind (arith, nat_tests)

turned : (a k : ℕ) → (a == k) ≡ (k == a)
turned a k = at (a == k) refl
  where
    at : (b : Bool) → (a == k) ≡ b → b ≡ (k == a)
    at true e = sym (equal-numbers k a (sym (eqb-true a k e)))
    at false e = sym (false_from_ne_true (k == a) (λ same. true≢false (sym (equal-numbers a k (sym (eqb-true k a same))) ∙ e)))

abbrev link_book : List Link → List (ℕ × KeptLink)
link_book [] = []
link_book (l ∷ ls) = cond l.has_ended (link_book ls) ((l.child, kept_of l) ∷ link_book ls)

abbrev stack_book : Kids → List Surface → List (ℕ × Stacks)
stack_book kids [] = []
stack_book kids (s ∷ ss) = (s.id, stacks_by kids s.history) ∷ stack_book kids ss

links-kept : (child : ℕ) (ls : List Link) → kept_in (link_book ls) child ≡ option_map kept_of (find (is_live_of child) ls)
links-kept child [] = refl
links-kept child (l ∷ ls) = at l.has_ended (l.child == child) refl (links-kept child ls)
  where
    at : (ended same : Bool) → (l.child == child) ≡ same → kept_in (link_book ls) child ≡ option_map kept_of (find (is_live_of child) ls)
        → kept_in (cond ended (link_book ls) ((l.child, kept_of l) ∷ link_book ls)) child ≡ option_map kept_of (cond (not ended && (l.child == child)) (Some l) (find (is_live_of child) ls))
    at true same e rest = rest
    at false true e rest =
        ap (λ b. cond b (Some (kept_of l)) (kept_in (link_book ls) child)) (key-same child l.child ∙ turned child l.child ∙ e)
        ∙ ap (λ b. option_map kept_of (cond b (Some l) (find (is_live_of child) ls))) (sym e)
    at false false e rest =
        ap (λ b. cond b (Some (kept_of l)) (kept_in (link_book ls) child)) (key-same child l.child ∙ turned child l.child ∙ e)
        ∙ (rest ∙ ap (λ b. option_map kept_of (cond b (Some l) (find (is_live_of child) ls))) (sym e))

stacks-kept : (kids : Kids) (n : ℕ) (ss : List Surface) → unwrap_or (kept_in (stack_book kids ss) n) childless ≡ stacks_at kids (option_map (λ s. s.history) (find (λ s. s.id == n) ss))
stacks-kept kids n [] = refl
stacks-kept kids n (s ∷ ss) = at (s.id == n) refl (stacks-kept kids n ss)
  where
    at : (b : Bool) → (s.id == n) ≡ b → unwrap_or (kept_in (stack_book kids ss) n) childless ≡ stacks_at kids (option_map (λ s. s.history) (find (λ s. s.id == n) ss))
        → unwrap_or (kept_in (stack_book kids (s ∷ ss)) n) childless ≡ stacks_at kids (option_map (λ s. s.history) (cond b (Some s) (find (λ s. s.id == n) ss)))
    at true e rest = ap (λ b. unwrap_or (cond b (Some (stacks_by kids s.history)) (kept_in (stack_book kids ss) n)) childless) (key-same n s.id ∙ turned n s.id ∙ e)
    at false e rest = ap (λ b. unwrap_or (cond b (Some (stacks_by kids s.history)) (kept_in (stack_book kids ss) n)) childless) (key-same n s.id ∙ turned n s.id ∙ e) ∙ rest

abbrev kept : Surfaces → Tied
kept all = record { places = []; links = link_book all.links; stacks = stack_book (kids_of all) all.surfaces }

hangs : (all : Surfaces) → AreTied all → Hang (kept all) all
hangs all tied = (record { links = λ child. links-kept child all.links; stacks = λ surface. stacks-kept (kids_of all) surface all.surfaces }, tied)

-- one surface's stacks change
abbrev with_stacks : ℕ → (Stacks → Stacks) → Tied → Tied
with_stacks k change t = record t { stacks = (k, change (stacks_in t k)) ∷ t.stacks }

stacks-changed : (k : ℕ) (change : Stacks → Stacks) (t : Tied) → stacks_in (with_stacks k change t) ≡ changed_at k change (stacks_in t)
stacks-changed k change t = fun_ext (λ other. ap (λ b. unwrap_or (cond b (Some (change (stacks_in t k))) (kept_in t.stacks other)) childless) (key-same other k) ∙ at other (other == k))
  where
    at : (other : ℕ) (b : Bool) → unwrap_or (cond b (Some (change (stacks_in t k))) (kept_in t.stacks other)) childless ≡ (if b then change (stacks_in t k) else stacks_in t other)
    at other true = refl
    at other false = refl

abbrev with_joined : ℕ → ℕ → Tied → Tied
with_joined child parent t = record t { links = (child, record { parent = parent; is_synchronised = true }) ∷ t.links }

links-joined : (child parent : ℕ) (t : Tied) → links_in (with_joined child parent t) ≡ joined child parent (links_in t)
links-joined child parent t =
    fun_ext (λ other. ap (λ b. cond b (Some (record { parent = parent; is_synchronised = true })) (kept_in t.links other)) (key-same other child) ∙ at other (other == child))
  where
    at : (other : ℕ) (b : Bool) → cond b (Some (record { parent = parent; is_synchronised = true })) (kept_in t.links other)
        ≡ (if b then Some (record { parent = parent; is_synchronised = true }) else links_in t other)
    at other true = refl
    at other false = refl

-- ---- one request more

-- who is there already adds nobody
is-itself : (at m : Member) → is_member at m ≡ true → at ≡ m
is-itself Itself Itself e = refl
is-itself (Child l) (Child k) e = ap (λ n. Child n) (eqb-true l k e)
is-itself at m e = absurd (cc)

any-there : (l : ℕ) (c : Member) (ms : List Member) → list_any (is_member c) ms ≡ true → (is_member (Child l) c || list_any (is_member (Child l)) ms) ≡ list_any (is_member (Child l)) ms
any-there l c ms there = at (is_member (Child l) c) refl
  where
    at : (b : Bool) → is_member (Child l) c ≡ b → (b || list_any (is_member (Child l)) ms) ≡ list_any (is_member (Child l)) ms
    at true e = sym (ap (λ m. list_any (is_member m) ms) (is-itself (Child l) c e) ∙ there)
    at false e = refl

any-placed : (beside : Member → Member → List Member → List Member)
    → ((q : Member → Bool) (c at : Member) (ms : List Member) → list_any (is_member at) ms ≡ true → list_any q (beside c at ms) ≡ (q c || list_any q ms)) → (l k : ℕ) (at : Member)
    → (ms : List Member) → list_any (is_member (Child k)) ms ≡ true → list_any (is_member (Child l)) (placed beside k at ms) ≡ list_any (is_member (Child l)) ms
any-placed beside besides l k at ms there = here (list_any (is_member at) (without (Child k) ms)) refl
  where
    here : (b : Bool) → list_any (is_member at) (without (Child k) ms) ≡ b
        → list_any (is_member (Child l)) (if b then beside (Child k) at (without (Child k) ms) else ms) ≡ list_any (is_member (Child l)) ms
    here true e =
        besides (is_member (Child l)) (Child k) at (without (Child k) ms) e ∙ (any-without (is_member (Child l)) (Child k) ms ∙ any-there l (Child k) ms there)
    here false e = refl

-- the parent of a link that lives names it
named-there : (all : Surfaces) (number surface : ℕ) → AreTied all → IsOfParent number surface all → (h : History) → history_in surface all ≡ Some h → has_child number h.requests ≡ true
named-there all number surface tied of h here =
    let parent = tied.listed number of.0 of.1.here of.1.lives in
    let both : Option.Some parent.0 ≡ Some h = sym parent.1 ∙ (ap (λ n. history_in n all) of.2 ∙ here) in
    let same : parent.0 ≡ h = cc in
    subst (λ (h : History). has_child number h.requests ≡ true) same parent.2

tied-above : (all : Surfaces) (surface number : ℕ) (at : Member) → IsOfParent number surface all → AreTied all → AreTied (with_change surface (asking (PlaceAbove number at)) all)
tied-above all surface number at of tied =
    tied-changed all surface (asking (PlaceAbove number at)) (with_asked (PlaceAbove number at)) (λ s. refl) (λ s. refl)
    (λ h le. let same = committed-same h.requests (PlaceAbove number at) refl in omega (arith, le, same))
    (λ l h here. ap (list_any (is_member (Child l))) (order-last h.requests (PlaceAbove number at))
    ∙ any-placed above any-above l number at (order h.requests) (named-there all number surface tied of h here))
    (λ l h gone. position-last l h.requests (PlaceAbove number at)) tied

tied-below : (all : Surfaces) (surface number : ℕ) (at : Member) → IsOfParent number surface all → AreTied all → AreTied (with_change surface (asking (PlaceBelow number at)) all)
tied-below all surface number at of tied =
    tied-changed all surface (asking (PlaceBelow number at)) (with_asked (PlaceBelow number at)) (λ s. refl) (λ s. refl)
    (λ h le. let same = committed-same h.requests (PlaceBelow number at) refl in omega (arith, le, same))
    (λ l h here. ap (list_any (is_member (Child l))) (order-last h.requests (PlaceBelow number at))
    ∙ any-placed below any-below l number at (order h.requests) (named-there all number surface tied of h here))
    (λ l h gone. position-last l h.requests (PlaceBelow number at)) tied

tied-commit : (all : Surfaces) (surface : ℕ) → AreTied all → AreTied (with_change surface (asking Commit) all)
tied-commit all surface tied =
    (commits-stack (kept all) (with_stacks surface committed (kept all)) all surface refl (stacks-changed surface committed (kept all)) (hangs all tied)).1

tied-position : (all : Surfaces) (surface number : ℕ) (x y : _) → IsOfParent number surface all → AreTied all → AreTied (with_change surface (asking (SetPosition number x y)) all)
tied-position all surface number x y of tied =
    let link : Link = of.0 in
    let change : Stacks → Stacks = pending_as (moved link.child x y) in
    let stacks : stacks_in (with_stacks link.parent change (kept all)) ≡ at_parent (λ parent. change) (links_in (kept all) link.child) (stacks_in (kept all)) =
    stacks-changed link.parent change (kept all)
    ∙ sym (ap (λ o. at_parent (λ parent. change) o (stacks_in (kept all))) (kept-link (kept all) all number link (hangs all tied) of.1.here of.1.lives)) in
    let moved : AreTied (with_change link.parent (asking (SetPosition number x y)) all) =
    (moves-child (kept all) (with_stacks link.parent change (kept all)) all number link x y of.1.here of.1.lives refl stacks (hangs all tied)).1 in
    subst (λ n. AreTied (with_change n (asking (SetPosition number x y)) all)) of.2 moved

tied-alone : (all : Surfaces) (surface : ℕ) (r : Request) → is_about_children r ≡ false → is_commit r ≡ false → AreTied all → AreTied (with_change surface (asking r) all)
tied-alone all surface r about none tied = (asks-alone (kept all) all surface r about none (hangs all tied)).1

tied-asked : (all : Surfaces) (surface : ℕ) (request : Request) → IsAskable surface all request → IsSettable surface all request → AreTied all → AreTied (with_change surface (asking request) all)
tied-asked all surface (AddChild number) is set tied = absurd is
tied-asked all surface (PlaceAbove number at) is set tied = tied-above all surface number at is tied
tied-asked all surface (PlaceBelow number at) is set tied = tied-below all surface number at is tied
tied-asked all surface (SetPosition number x y) is set tied = tied-position all surface number x y set tied
tied-asked all surface Commit is set tied = tied-commit all surface tied
tied-asked all surface request is set tied = tied-alone all surface request refl refl tied

tied-role : (all : Surfaces) (id : ℕ) (role : Role) → AreTied all → AreTied (with_change id (with_role role) all)
tied-role all id role tied = tied-changed all id (with_role role) (λ h. h) (λ s. refl) (λ s. refl) (λ h le. le) (λ l h there. refl) (λ l h gone. refl) tied

-- ---- what is applied

tied-tree : (all : Surfaces) (surface : ℕ) → AreTied all → AreTied (applied_tree levels surface all)
tied-tree all surface tied = subst AreTied (sym (applies-descendants all tied.once 16 surface)) (tied-applied (descends_from 16 all surface) all tied)

tied-unless : (b : Bool) (all : Surfaces) (surface : ℕ) → AreTied all → AreTied (applied_unless b surface all)
tied-unless true all surface tied = tied
tied-unless false all surface tied = tied-tree all surface tied

tied-committed : (all : Surfaces) (surface : ℕ) → AreTied all → AreTied (committed_in surface all)
tied-committed all surface tied = tied-unless (behaves_synchronised levels all surface) (with_change surface (asking Commit) all) surface (tied-commit all surface tied)

-- ---- links

tied-link : (all : Surfaces) (k : ℕ) (f : Link → Link) → KeepsLink f → AreTied all → AreTied (with_link k f all)
tied-link all k f keeps tied = each-tied (λ l. cond (l.number == k) (f l) l) (keeps-where (λ l. l.number == k) f keeps) all tied

keeps-mode : (synchronised : Bool) → KeepsLink (in_mode synchronised)
keeps-mode synchronised = record { number = λ l. refl; child = λ l. refl; parent = λ l. refl; ended = λ l e. e }

tied-released : (o : Option Link) (old new : Surfaces) → AreTied new → AreTied (released_in o old new)
tied-released None old new tied = tied
tied-released (Some l) old new tied = tied-unless (not (behaves_synchronised levels old l.child) || behaves_synchronised levels new l.child) new l.child tied

tied-ended : (all : Surfaces) (l : Link) → AreTied all → AreTied (ended_in all l)
tied-ended all l tied = tied-tree (with_link l.number ending all) l.child (tied-link all l.number ending keeps-ending tied)

tied-all-ended : (ls : List Link) (all : Surfaces) → AreTied all → AreTied (fold ended_in all ls)
tied-all-ended [] all tied = tied
tied-all-ended (l ∷ ls) all tied = tied-all-ended ls (ended_in all l) (tied-ended all l tied)

tied-unlinked : (gone : Option ℕ) (all : Surfaces) → AreTied all → AreTied (unlinked_at gone all)
tied-unlinked None all tied = tied
tied-unlinked (Some number) all tied = tied-all-ended (filter (λ l. not l.has_ended && l.number == number) all.links) all tied

some-history : (o : Option Surface) → is_some o ≡ true → (h : History) × (option_map (λ (s : Surface). s.history) o ≡ Some h)
some-history None is = absurd (true≢false (sym is))
some-history (Some s) is = (s.history, refl)

-- a child of no link that lives has no parent
no-parent : (all : Surfaces) (bound child : ℕ) → IsForest bound all → IsFree child all → link_of child all ≡ None
no-parent all bound child forest free =
    found-none (is_live_of child) all.links
    (λ l found.
    let passes = found-passes (is_live_of child) all.links l found in
    free l.number l (record {
      here = found-by (λ number (k : Link). k.number == number) (is_live_of child) l.number all.links l forest.apart found (equal-numbers l.number l.number refl);
      lives = not-ended l.has_ended (and-left (not l.has_ended) (l.child == child) passes);
    }) (eqb-true l.child child (and-right (not l.has_ended) (l.child == child) passes)))
  where
    not-ended : (b : Bool) → not b ≡ true → b ≡ false
    not-ended true f = absurd (true≢false (sym f))
    not-ended false f = refl

-- the number of the request is no link's yet
no-number : (all : Surfaces) (bound : ℕ) → IsForest bound all → link_at bound all ≡ None
no-number all bound forest = found-none (λ (l : Link). l.number == bound) all.links (λ l found. let low = forest.early bound l found in omega (arith, low))

tied-linked : (bound child parent : ℕ) (all : Surfaces) → IsForest bound all → is_some (surface_at parent all) ≡ true → IsFree child all → AreTied all → AreTied (linked bound child parent all)
tied-linked bound child parent all forest above free tied =
    let h = some-history (surface_at parent all) above in
    let old = kept all in
    let new = with_stacks parent (pending_as (added child)) (with_joined child parent old) in
    let alone : links_in old child ≡ None = links-kept child all.links ∙ ap (option_map kept_of) (no-parent all bound child forest free) in
    (joins-child old new all bound child parent h.0 (no-number all bound forest) alone h.1 (links-joined child parent old) (stacks-changed parent (pending_as (added child)) old) (hangs all tied)).1

-- ---- surfaces come and go

-- where the same was asked of each
tied-same : (all new : Surfaces) → new.links ≡ all.links → ((n : ℕ) → history_in n new ≡ history_in n all) → AreTied all → AreTied new
tied-same all new links same tied = record {
  once = rw links tied.once;
  apart = rw links tied.apart;
  cuts = λ n h e. tied.cuts n h (sym (same n) ∙ e);
  named = λ n l h e gone. tied.named n l h (sym (same n) ∙ e) (sym (at l) ∙ gone);
  placed = λ n l h e gone. tied.placed n l h (sym (same n) ∙ e) (sym (at l) ∙ gone);
  parents = λ n l h link e there lives has. tied.parents n l h link (sym (same n) ∙ e) (sym (at l) ∙ there) lives has;
  listed = λ l link there lives. let is = tied.listed l link (sym (at l) ∙ there) lives in (is.0, same link.parent ∙ is.1, is.2);
}
  where
    at : (l : ℕ) → link_at l new ≡ link_at l all
    at l = ap (find (λ (k : Link). k.number == l)) links

-- another surface with an id that is there already is never found
again : (id : ℕ) (s : Surface) (all : Surfaces) → surface_at id all ≡ Some s → (n : ℕ) → history_in n (with_new id all) ≡ history_in n all
again id s all there n = at (id == n) refl
  where
    at : (b : Bool) → (id == n) ≡ b → history_in n (with_new id all) ≡ history_in n all
    at true e =
        let here : surface_at n all ≡ Some s = ap (λ k. surface_at k all) (sym (eqb-true id n e)) ∙ there in
        ap (option_map (λ (s : Surface). s.history)) (found-first (λ s. s.id == n) all.surfaces (new_surface id) s here ∙ sym here)
    at false e = ap (option_map (λ (s : Surface). s.history)) (new-elsewhere (λ s. s.id == n) all.surfaces (new_surface id) e)

tied-created : (id : ℕ) (all : Surfaces) → AreTied all → AreTied (with_new id all)
tied-created id all tied = at (surface_at id all) refl
  where
    at : (o : Option Surface) → surface_at id all ≡ o → AreTied (with_new id all)
    at None none = (creates-surface (kept all) all id none (hangs all tied)).1
    at (Some s) there = tied-same all (with_new id all) refl (again id s all there) tied

tied-destroyed : (bound surface : ℕ) (all : Surfaces) → IsForest bound all → AreTied all → AreTied (destroyed_in surface all)
tied-destroyed bound surface all forest tied = subst AreTied (sym whole) (tied-without ended surface apart (each-tied (end_one surface) (keeps-where (touches surface) ending keeps-ending)
    (applied_where below_it all) (tied-applied below_it all tied)))
  where
    below_it : ℕ → Bool
    below_it n = descends_from levels all surface n

    ended : Surfaces
    ended = record (applied_where below_it all) { links = ended_with surface all.links }

    whole : destroyed_in surface all ≡ without_surface surface ended
    whole = ends-links all surface tied.once tied.apart

    apart : (number : ℕ) (link : Link) → link_at number ended ≡ Some link → link.has_ended ≡ false → (link.parent == surface) ≡ false
    apart number link here lives =
        let now : IsLive number link (without_surface surface ended) = record { here = here; lives = lives } in
        ne_eqb link.parent surface (destroyed-live surface number link all forest.apart (subst (λ (x : Surfaces). IsLive number link x) (sym whole) now)).1

-- ---- all of it

abbrev pub HangTogether : ℕ → Surfaces → List Subsurface → Type 0
HangTogether bound all ss = AreTied all

pub tied-first : (bound : ℕ) → HangTogether bound no_surfaces []
tied-first bound = record {
  once = tt;
  apart = tt;
  cuts = λ n h e. absurd (none-some h e);
  named = λ n l h e gone. absurd (none-some h e);
  placed = λ n l h e gone. absurd (none-some h e);
  parents = λ n l h link e there lives has. absurd (none-some h e);
  listed = λ l link there lives. absurd (none-some link there);
}

pub tied-keeps : Keeps HangTogether
tied-keeps = record {
  later = λ b all ss tied. tied;
  created = λ b id all ss tied. tied-created id all tied;
  asked = λ b surface request all ss ok set tied. tied-asked all surface request ok set tied;
  role = λ b id role all ss tied. tied-role all id role tied;
  committed = λ b surface all ss tied. tied-committed all surface tied;
  linked_more = λ b id child parent all ss forest there above none free tied. tied-linked b child parent all forest above free tied;
  unlinked = λ b id gone all ss tied. tied-unlinked gone all tied;
  synchronised = λ b link all ss tied. tied-link all link (in_mode true) (keeps-mode true) tied;
  desynchronised = λ b link all ss tied. tied-released (link_at link all) all (with_link link (in_mode false) all) (tied-link all link (in_mode false) (keeps-mode false) tied);
  destroyed = λ b surface all ss forest tied. tied-destroyed b surface all forest tied;
}

tied-at : (o : Option Resident) → HoldsAt HangTogether tied-first o → AreTied (owned_of o).surfaces
tied-at None known = tied-first 0
tied-at (Some r) known = known

pub surfaces-are-tied : SurfacesAreTied
surfaces-are-tied output acts dones d h c =
    tied-at (client_at c d) (lasts-hold HangTogether tied-first (messages-hold HangTogether tied-keeps) output acts dones d h c)
