-- What a message that touches a surface demands, and the damage that is told of it.
use Rattle.std.proofs.Common.{◌≡◌, ℕ, true, Option, Some, None, [], refl, ap, sym, subst, ◌∙◌, inl, inr, ◌⊎◌}
use Rattle.std.proofs.lemmas.Bool.{true≢false}
use Rattle.std.proofs.lemmas.Option.{none-some}
use Rattle.std.specs.Prelude.{is_some}
use Rattle.law_desktop.specs.Ordered.{OwnsOrdered}
use Rattle.spec_desktop.specs.Peer.{Peer}
use Rattle.spec_desktop.specs.Demand.{Demand, EndToplevel}
use Rattle.spec_desktop.specs.Desktop.{Desktop, Resident}
use Rattle.wl_requests.specs.declared.messages.Asked.{Asked}
use Rattle.wl_requests.specs.declared.residents.Resident.{Resident as Kept}
use Rattle.wl_requests.specs.declared.residents.Stacking.{Stacking}
use Rattle.wl_requests.specs.declared.residents.Stacking.TheVariants as on
use Rattle.wl_requests.specs.Messages.{IsAsked, IsTouchOfAsked}
use Rattle.wl_requests.specs.Residents.{IsResident, StacksFor}
use Rattle.wl_requests.specs.Touching.{IsTouched, Touch}
use Rattle.wl_surface.specs.declared.applied.Applied.{Applied}
use Rattle.law_desktop.specs.Done.{touched_by}
use Rattle.law_desktop.specs.Messages.{IsDemanded}
use Rattle.wl_wire.specs.Wire.{split_of}
use Rattle.wl_clients.specs.Screens.{IsTouchedBy, changes_in}
use Rattle.wl_clients.proofs.OnScreen.Serving.{IsTold}
use Rattle.wl_clients.proofs.OnScreen.Sitting.{numbers}
use Rattle.wl_clients.proofs.OnScreen.Told.{nothing-told, touch-told}
use Rattle.wl_clients.proofs.OnScreen.Touches.{IsTouchFor, IsTouchNamed, touch-is, touch-named}

-- A surface is touched by a request that may change what several show, or its toplevel goes.
touch-or-out : {A : Type 0} (old : Kept A) (r : Resident) (stacking : Stacking) (T : Touch → Type 0) (number : ℕ) (wanted : Demand) → IsTouchFor T number wanted
    → StacksFor old r wanted stacking
    → ((touch : Touch) × T touch) ⊎ ((n : ℕ) × (i : ℕ) × (x : ℕ) × (surface : ℕ) × (stacking ≡ on.Out n) × (wanted ≡ EndToplevel i x surface))
touch-or-out old r stacking T number (EndToplevel i x surface) h so = inr (so.0, i, x, surface, so.2, refl)
touch-or-out old r stacking T number wanted h so = inl (h.0, h.1)

applied-value : {X : Type 0} (o : Option X) → is_some o ≡ true → (x : X) × (o ≡ Some x)
applied-value None some = absurd (true≢false (sym some))
applied-value (Some x) some = (x, refl)

module _ {A : Type 0} (old mid : Kept A) (r : Resident) (p : Peer) (c : ℕ) (d : Desktop) (resident : IsResident old r) (owns : OwnsOrdered r) (asked : Asked) (asks : IsAsked old.client asked)
    (surface : ℕ) (by : IsTouchedBy old asked (Some surface)) (demand : Demand) (demanded : IsDemanded (split_of r.peer.rest) r demand) (stacking : Stacking)
    (stacks : StacksFor old r demand stacking) (applied : Option (Applied A))
    (touched_so : (touch : Touch) → IsTouchOfAsked asked old touch → IsTouched touch old.owned.surfaces mid.owned.surfaces applied)
    (some_applied : (touch : Touch) → IsTouchOfAsked asked old touch → is_some applied ≡ true) where
  abbrev Its : ℕ → Type 0
  Its id = (touched_by demand r ≡ Some id) × (numbers old id ≡ Some surface)

  named : (id : ℕ) × Its id
  named = at (touch-named old r asked demand (Some surface) resident owns asks demanded by)
    where
      at : IsTouchNamed old r demand (Some surface) → (id : ℕ) × Its id
      at (inl h) = absurd (none-some surface (sym h.1))
      at (inr h) = (h.0, (h.2, h.4 ∙ sym h.3))

  -- What is demanded, and what is told of it.
  pub told-of : IsTold c old r d demand p surface stacking applied
  told-of =
      at
      (touch-or-out old r stacking (λ touch. IsTouchOfAsked asked old touch) surface demand (touch-is old r asked demand (Some surface) resident owns asks demanded by) stacks)
    where
      by-touch : (touch : Touch) → IsTouchOfAsked asked old touch → (a : Applied A) → applied ≡ Some a → IsTold c old r d demand p surface stacking applied
      by-touch touch it a is = record {
        id = named.0;
        touches = named.1.0;
        named = named.1.1;
        list = a.changes.items;
        tells =
            touch-told old mid r p c d asked demand touch a resident owns asks demanded it
            (subst (λ (o : Option (Applied A)). IsTouched touch old.owned.surfaces mid.owned.surfaces o) is (touched_so touch it));
        stays = λ never. (ap (λ (o : Option (Applied A)). is_some o) is, sym (ap (λ (o : Option (Applied A)). changes_in o) is));
      }

      at : ((touch : Touch) × IsTouchOfAsked asked old touch)
          ⊎ ((n : ℕ) × (i : ℕ) × (x : ℕ) × (surface : ℕ) × (stacking ≡ on.Out n) × (demand ≡ EndToplevel i x surface)) → IsTold c old r d demand p surface stacking applied
      at (inl h) = let value = applied-value applied (some_applied h.0 h.1) in by-touch h.0 h.1 value.0 value.1
      at (inr h) = record {
        id = named.0;
        touches = named.1.0;
        named = named.1.1;
        list = [];
        tells = nothing-told old r p c d demand h.1 h.2 h.3 h.5;
        stays = λ never. absurd (never h.0 h.4);
      }
