-- What a press dismisses.
use Rattle.std.proofs.Common.{◌≡◌, ℕ, Bool, true, false, Option, Some, None, refl, ap, sym, ◌∙◌, inl, inr}
use Rattle.std.specs.Prelude.{◌||◌, ◌⊎◌, is_some}
use Rattle.spec_desktop.specs.Peer.{Peer}
use Rattle.spec_desktop.specs.Desktop.{Desktop, Resident, client_at, owned_in, owned_of, with_client}
use Rattle.spec_desktop.specs.Replies.{popups_done}
use Rattle.spec_desktop.specs.Settling.{Midstep, TellsAt, TellsUnless, is_struck, without_grabs}
use Rattle.law_desktop.proofs.Runs.Places.{number-other, number-same}
use Rattle.law_windows.specs.Grabs.Dismissed.{Dismisses}
use Rattle.law_windows.specs.Grabs.Presses.{PressesDismiss}

-- ---- a client whose popups with a grab are dismissed, whatever it was told

module _ (c : ℕ) (d e : Desktop) (r : Resident) (here : client_at c d ≡ Some r) (q : Peer) (is : e ≡ with_client c (Some (record (without_grabs r) { peer = q })) d) where
  mine : owned_in d c ≡ r.owned
  mine = ap owned_of here

  pub own-released : owned_in e c ≡ (without_grabs r).owned
  own-released = ap (λ (d : Desktop). owned_in d c) is ∙ ap owned_of (number-same d.clients c (Some (record (without_grabs r) { peer = q })) r here)

  pub grabs-go : Dismisses (λ p. p.popup.has_grab) c d e
  grabs-go = record {
    surfaces = ap (λ o. o.surfaces) own-released ∙ sym (ap (λ o. o.surfaces) mine);
    shell = ap (λ o. o.shell) own-released ∙ ap (λ o. (without_grabs (record r { owned = o })).owned.shell) (sym mine);
    others = λ other differs.
        ap (λ (d : Desktop). owned_in d other) is
        ∙ ap owned_of (number-other d.clients c other (Some (record (without_grabs r) { peer = q })) (λ same. differs (sym same)));
    standing = ap (λ (d : Desktop). d.standing) is;
    output = ap (λ (d : Desktop). d.output) is;
  }

-- ---- a press

module _ (c : ℕ) (old new : Midstep) where
  abbrev Goes : Type 0
  Goes = Dismisses (λ p. p.popup.has_grab) c old.desktop new.desktop

  unless-over : (r : Resident) → client_at c old.desktop ≡ Some r → (b : Bool) → TellsUnless b without_grabs (λ r. popups_done r (without_grabs r)) c r old new → (new ≡ old) ⊎ Goes
  unless-over r here true same = inl same
  unless-over r here false tells = inr (grabs-go c old.desktop new.desktop r here tells.0 (ap (λ (m : Midstep). m.desktop) tells.3))

  at-client : (o : Option Resident) → client_at c old.desktop ≡ o → TellsAt without_grabs (λ r. popups_done r (without_grabs r)) c o old new → (new ≡ old) ⊎ Goes
  at-client None here same = inl same
  at-client (Some r) here tells = unless-over r here (is_some r.peer.status || is_struck c old.struck) tells

pub presses-dismiss : PressesDismiss
presses-dismiss windows c old new applies = at-client c old new (client_at c old.desktop) refl applies
