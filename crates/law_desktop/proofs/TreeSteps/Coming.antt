-- A link that comes keeps all that counts.
use Rattle.std.proofs.Common.{◌≡◌, ℕ, ◌==◌, true, false, None, ap, sym, ◌∙◌}
use Rattle.std.specs.Option.{option_map}
use Rattle.std.proofs.lemmas.Bool.{eqb-true, false_from_ne_true}
use Rattle.wl_surface.specs.declared.role.Role.TheVariants.{Subsurface}
use Rattle.wl_surface.specs.Request.{AddChild}
use Rattle.wl_surface.specs.State.{History, counting}
use Rattle.wl_surface.specs.Surface.{with_role}
use Rattle.wl_surface.specs.Surfaces.{Link, Surfaces, history_in, link_at, with_change}
use Rattle.wl_surface.specs.Trees.{linked}
use Rattle.wl_surface.specs.Hanging.{AreTied, kid_of, kids_of}
use Rattle.wl_surface.specs.Stacks.{has_child}
use Rattle.wl_surface.proofs.Linking.{never-there}
use Rattle.law_desktop.proofs.Lists.Keys.{new-elsewhere}
use Rattle.law_desktop.specs.TreeStepsLaws.{IsNamed}
use Rattle.law_desktop.specs.TreeRequests.{LinkKeepsAll}
use Rattle.law_desktop.proofs.TreeSteps.Commits.{count-asked, cut-asked, history-asked, role-keeps-all, within-requests}
use Rattle.law_desktop.proofs.Truth.{differ}

module _ (all : Surfaces) (tied : AreTied all) (number child parent : ℕ) (free : link_at number all ≡ None) where
  abbrev fresh : Link
  fresh = record { number = number; child = child; parent = parent; synchronised = true; has_ended = false }

  -- no surface names the link yet
  unnamed : (n : ℕ) → IsNamed n all → (number == n) ≡ false
  unnamed n named = false_from_ne_true (number == n) never
    where
      never : (number == n) ≡ true → ⊥
      never e =
          let none = never-there number named.history.cut named.history.requests (tied.named named.surface number named.history named.here free) in
          differ (sym none ∙ (ap (λ k. has_child k (counting named.history)) (eqb-true number n e) ∙ named.there))

  -- the role of the child is nothing to what was asked
  role-same : (s : ℕ) → history_in s (with_change child (with_role Subsurface) (record all { links = (linked number child parent all).links })) ≡ history_in s all
  role-same s = (role-keeps-all (record all { links = (linked number child parent all).links }) child Subsurface).0 s

  abbrev roled : Surfaces
  roled = with_change child (with_role Subsurface) (record all { links = (linked number child parent all).links })

  counts-linked : (s : ℕ) → option_map counting (history_in s (linked number child parent all)) ≡ option_map counting (history_in s all)
  counts-linked s =
      ap (option_map counting) (history-asked s parent (AddChild number) roled)
      ∙ (count-asked (AddChild number) (s == parent) (history_in s roled) (λ h e. within-requests all tied s h (sym (role-same s) ∙ e))
      ∙ ap (option_map counting) (role-same s))

  cuts-linked : (s : ℕ) → option_map (λ (h : History). h.cut) (history_in s (linked number child parent all)) ≡ option_map (λ (h : History). h.cut) (history_in s all)
  cuts-linked s =
      ap (option_map (λ (h : History). h.cut)) (history-asked s parent (AddChild number) roled)
      ∙ (cut-asked (AddChild number) (s == parent) (history_in s roled) ∙ ap (option_map (λ (h : History). h.cut)) (role-same s))

  kids-linked : (n : ℕ) → IsNamed n all → kids_of (linked number child parent all) n ≡ kids_of all n
  kids-linked n named = ap kid_of (new-elsewhere (λ (l : Link). l.number == n) all.links fresh (unnamed n named))

pub link-keeps-all : LinkKeepsAll
link-keeps-all all tied number child parent free = record {
  counts = counts-linked all tied number child parent free;
  cuts = cuts-linked all tied number child parent free;
  kids = kids-linked all tied number child parent free;
}
