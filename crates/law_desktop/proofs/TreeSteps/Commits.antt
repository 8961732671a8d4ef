-- A commit keeps the surfaces that don't descend from the one that is committed, and any other request of it all that counts.
use Rattle.std.proofs.Common.{◌≡◌, ℕ, ◌≤◌, ◌==◌, ◌++◌, Bool, true, false, cond, Option, Some, None, List, [], ◌∷◌, length, refl, ap, sym, ◌∙◌, arith}
use Rattle.std.specs.Option.{option_map}
use Rattle.wl_surface.specs.Request.{Commit, Request}
use Rattle.wl_surface.specs.State.{History, apply, committed as committed_at, counting}
use Rattle.wl_surface.specs.Surface.{asking, with_role}
use Rattle.wl_surface.specs.Surfaces.{Surfaces, history_in, with_change}
use Rattle.wl_surface.specs.Trees.{applied_tree, applied_unless, behaves_synchronised, descends_from, levels}
use Rattle.wl_surface.specs.Hanging.{AreTied, kids_of}
use Rattle.wl_surface.specs.TreeLaws.{AreOnceLinked}
use Rattle.wl_surface.proofs.TreesApplying.{applies-descendants}
use Rattle.wl_surface.proofs.Coming.{history-applied}
use Rattle.wl_surface.proofs.Hanging.{committed-within, history-changed, take-more}
use Rattle.law_desktop.specs.TreeStepsLaws.{KeepsOthers}
use Rattle.law_desktop.specs.TreeRequests.{CommitKeepsOthers, RequestKeepsAll, RoleKeepsAll}
use Rattle.law_desktop.proofs.TreeSteps.Fewer.{HadParents, by-fewer, is-other, none-descends}
use Rattle.law_desktop.proofs.Truth.{differ}

-- ---- one surface is asked

pub kept-where : (g : History → History) (b : Bool) (o : Option History) → b ≡ false → option_map (λ h. cond b (g h) h) o ≡ o
kept-where g true o e = absurd (differ (sym e))
kept-where g false None e = refl
kept-where g false (Some h) e = refl

abbrev pub asked_more : Request → History → History
asked_more r h = record h { requests = h.requests ++ r ∷ [] }

pub history-asked : (n id : ℕ) (r : Request) (all : Surfaces) → history_in n (with_change id (asking r) all) ≡ option_map (λ h. cond (n == id) (asked_more r h) h) (history_in n all)
history-asked n id r all = history-changed n id (asking r) (asked_more r) all (λ s. refl) (λ s. refl)

pub asked-keeps : (all : Surfaces) (id : ℕ) (r : Request) → KeepsOthers id all (with_change id (asking r) all)
asked-keeps all id r = record {
  histories = λ s none. history-asked s id r all ∙ kept-where (asked_more r) (s == id) (history_in s all) (is-other all id s none);
  kids = λ number child named is none. is;
  gone = λ number named e. e;
}

-- what counts is within what was asked
pub count-asked : (r : Request) (b : Bool) (o : Option History) → ((h : History) → o ≡ Some h → h.cut ≤ length h.requests)
    → option_map counting (option_map (λ h. cond b (asked_more r h) h) o) ≡ option_map counting o
count-asked r b None low = refl
count-asked r true (Some h) low = ap (λ (rs : List Request). Some rs) (take-more h.cut h.requests r (low h refl))
count-asked r false (Some h) low = refl

-- nor do more
pub cut-asked : (r : Request) (b : Bool) (o : Option History) → option_map (λ (h : History). h.cut) (option_map (λ h. cond b (asked_more r h) h) o) ≡ option_map (λ (h : History). h.cut) o
cut-asked r b None = refl
cut-asked r true (Some h) = refl
cut-asked r false (Some h) = refl

within-all : (a b c : ℕ) → a ≤ b → b ≤ c → a ≤ c
within-all a b c e f = omega arith

pub within-requests : (all : Surfaces) → AreTied all → (s : ℕ) (h : History) → history_in s all ≡ Some h → h.cut ≤ length h.requests
within-requests all tied s h e = within-all h.cut (committed_at h.requests) (length h.requests) (tied.cuts s h e) (committed-within h.requests)

pub request-keeps-all : RequestKeepsAll
request-keeps-all all tied id r = record {
  counts = λ s.
      ap (option_map counting) (history-asked s id r all)
      ∙ count-asked r (s == id) (history_in s all) (within-requests all tied s);
  cuts = λ s. ap (option_map (λ (h : History). h.cut)) (history-asked s id r all) ∙ cut-asked r (s == id) (history_in s all);
  kids = λ number named. refl;
}

pub role-keeps-all : RoleKeepsAll
role-keeps-all all id role = (
  same,
  record {
    counts = λ s. ap (option_map counting) (same s);
    cuts = λ s. ap (option_map (λ (h : History). h.cut)) (same s);
    kids = λ number named. refl;
  },
)
  where
    at : (b : Bool) (o : Option History) → option_map (λ h. cond b h h) o ≡ o
    at b None = refl
    at true (Some h) = refl
    at false (Some h) = refl

    same : (s : ℕ) → history_in s (with_change id (with_role role) all) ≡ history_in s all
    same s = history-changed s id (with_role role) (λ h. h) all (λ x. refl) (λ x. refl) ∙ at (s == id) (history_in s all)

-- ---- a tree is applied

kids-applied : (id : ℕ) (new : Surfaces) → AreOnceLinked new.links → (number : ℕ) → kids_of (applied_tree levels id new) number ≡ kids_of new number
kids-applied id new once number = ap (λ (x : Surfaces). kids_of x number) (applies-descendants new once 16 id)

pub history-kept : (id : ℕ) (new : Surfaces) → AreOnceLinked new.links → (s : ℕ) → descends_from levels new id s ≡ false → history_in s (applied_tree levels id new) ≡ history_in s new
history-kept id new once s none =
    ap (history_in s) (applies-descendants new once 16 id)
    ∙ (history-applied s (descends_from 16 new id) new ∙ kept-where apply (descends_from 16 new id s) (history_in s new) (by-fewer 16 17 new id s (omega arith) none))

-- what keeps the others does so with the tree applied too
pub applied-keeps : (id : ℕ) (all new : Surfaces) → AreOnceLinked new.links → HadParents all new → KeepsOthers id all new → KeepsOthers id all (applied_tree levels id new)
applied-keeps id all new once had keeps = record {
  histories = λ s none. history-kept id new once s (none-descends all new had levels id s none) ∙ keeps.histories s none;
  kids = λ number child named is none. kids-applied id new once number ∙ keeps.kids number child named is none;
  gone = λ number named e. kids-applied id new once number ∙ keeps.gone number named e;
}

pub unless-keeps : (b : Bool) (id : ℕ) (all new : Surfaces) → AreOnceLinked new.links → HadParents all new → KeepsOthers id all new → KeepsOthers id all (applied_unless b id new)
unless-keeps true id all new once had keeps = keeps
unless-keeps false id all new once had keeps = applied-keeps id all new once had keeps

pub commit-keeps-others : CommitKeepsOthers
commit-keeps-others all once id =
    unless-keeps (behaves_synchronised levels all id) id all (with_change id (asking Commit) all) once (λ s l e. (l, e, refl)) (asked-keeps all id Commit)
