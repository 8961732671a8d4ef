-- A toplevel that doesn't stand any more isn't moved any more.
use Rattle.std.proofs.Common.{◌≡◌, ℕ, List, [], ◌∷◌, Bool, true, false, Option, Some, None, if◌then◌else◌, refl, ap, ap₂, sym, ◌∙◌}
use Rattle.std.proofs.lemmas.Bool.{eqb-true}
use Rattle.std.proofs.lemmas.Option.{none-some}
use Rattle.std.specs.List.{list_any}
use Rattle.std.specs.Prelude.{◌==◌, ◌&&◌, ◌||◌}
use Rattle.spec_desktop.specs.Objects.{ById}
use Rattle.spec_desktop.specs.Pointer.{Pointer, Target}
use Rattle.spec_desktop.specs.Stacking.{Standing, is_of}
use Rattle.spec_desktop.specs.Changing.{kept_move}
use Rattle.spec_desktop.specs.Desktop.{Desktop}
use Rattle.law_desktop.specs.Pointed.Pointed.{keeping}
use Rattle.law_desktop.proofs.PointerAside.Pointers.{keeping-stays}
use Rattle.wl_clients.specs.Agreeing.{Agrees as KeptAgrees}
use Rattle.wl_clients.specs.Agreement.{IsStack, numbers_in}
use Rattle.wl_clients.specs.View.{DeskView}

-- none is moved
pub none-kept : (p : Pointer) (ss : List Standing) → None ≡ p.move → p ≡ keeping ss p
none-kept p ss none = sym (keeping-stays p ss (ap (λ (t : Option Target). kept_move t ss) (sym none) ∙ none))

-- the one that is stands
pub standing-kept : (p : Pointer) (ss : List Standing) (t : Target) → Some t ≡ p.move → true ≡ list_any (is_of t.client t.surface) ss → p ≡ keeping ss p
standing-kept p ss t moved stands =
    sym (keeping-stays p ss (ap (λ (o : Option Target). kept_move o ss) (sym moved) ∙ ap (λ (b : Bool). if b then Some t else None) (sym stands) ∙ moved))

-- or it doesn't
pub let-go : (p : Pointer) (ss : List Standing) (t : Target) → Some t ≡ p.move → false ≡ list_any (is_of t.client t.surface) ss → record p { move = None } ≡ keeping ss p
let-go p ss t moved gone =
    ap (λ (o : Option Target). record p { move = o })
    (ap (λ (b : Bool). if b then Some t else None) gone ∙ ap (λ (o : Option Target). kept_move o ss) moved)

-- a surface without a number doesn't stand
none-stands : (numbers : ℕ → ById ℕ) (c id : ℕ) (ks ss : List Standing) → IsStack numbers ks ss → numbers c id ≡ None → list_any (is_of c id) ss ≡ false
none-stands numbers c id [] [] is none = refl
none-stands numbers c id [] (s ∷ ss) is none = absurd is
none-stands numbers c id (k ∷ ks) [] is none = absurd is
none-stands numbers c id (k ∷ ks) (s ∷ ss) is none = at (s.client == c) (s.surface == id) refl refl (none-stands numbers c id ks ss is.1 none)
  where
    at : (a b : Bool) → (s.client == c) ≡ a → (s.surface == id) ≡ b → list_any (is_of c id) ss ≡ false → ((a && b) || list_any (is_of c id) ss) ≡ false
    at true true owner named rest =
        absurd (none-some k.surface (sym none ∙ sym (ap₂ (λ (m n : ℕ). numbers m n) (eqb-true s.client c owner) (eqb-true s.surface id named)) ∙ is.0.surface))
    at true false owner named rest = rest
    at false b owner named rest = rest

pub unnumbered-stands : (v : DeskView) (e : Desktop) (c id : ℕ) → KeptAgrees v e → None ≡ numbers_in v.clients c id → false ≡ list_any (is_of c id) e.standing
unnumbered-stands v e c id a none =
    sym (none-stands (numbers_in v.clients) c id v.pile.scene.standing e.standing a.matches.scene.standing (sym none))
