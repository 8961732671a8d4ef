-- Of every client the mapped toplevels stand, and a mapped surface shows a buffer, with popups too: it stays so where one client is told something.
use Rattle.std.proofs.Common.{◌≡◌, ◌≢◌, ℕ, List, Bool, true, false, Option, Some, None, refl, ap, sym, subst, ◌∙◌}
use Rattle.std.specs.Prelude.{◌==◌}
use Rattle.std.specs.List.{list_any}
use Rattle.std.proofs.lemmas.Bool.{eqb-false, eqb-true, true≢false}
use Rattle.std.proofs.lemmas.Option.{none-some}
use Rattle.spec_desktop.specs.declared.cause.Cause.{Cause}
use Rattle.spec_desktop.specs.Peer.{Peer}
use Rattle.spec_desktop.specs.Stacking.{Owned, Standing, is_of, nothing_owned, without_client}
use Rattle.spec_desktop.specs.Desktop.{Desktop, Resident, become, become_by, client_at, client_in, owned_in, owned_of, resident_of, with_number}
use Rattle.law_desktop.specs.Laws.{AreApart}
use Rattle.law_desktop.proofs.Lists.Standings.{apart-left, ended-here, ended-other}
use Rattle.law_desktop.proofs.Runs.Places.{client-become, left_by, number-other}
use Rattle.law_desktop.specs.Shown.{AreShown, ShownStand}

-- ---- one client, where others' toplevels come and go

pub shown-same : (c : ℕ) (o : Owned) (old new : List Standing) → ((surface : ℕ) → list_any (is_of c surface) new ≡ list_any (is_of c surface) old) → AreShown c o old → AreShown c o new
shown-same c o old new same is = record { stands = λ surface. same surface ∙ is.stands surface; shows = is.shows; bare = is.bare; turned = is.turned }

-- one that owns nothing has none
nothing-shown : (c : ℕ) (standing : List Standing) → ((surface : ℕ) → list_any (is_of c surface) standing ≡ false) → AreShown c nothing_owned standing
nothing-shown c standing none = record {
  stands = none;
  shows = λ surface is. absurd (true≢false (sym is));
  bare = λ surface is. absurd (true≢false (sym is));
  turned = λ surface h is. absurd (none-some h is);
}

-- a client ends: its toplevels go
ended-shown : (c : ℕ) (standing : List Standing) → AreShown c nothing_owned (without_client c standing)
ended-shown c standing = nothing-shown c (without_client c standing) (λ surface. ended-here c surface standing)

ended-stay : (c other : ℕ) (o : Owned) (standing : List Standing) → c ≢ other → AreShown other o standing → AreShown other o (without_client c standing)
ended-stay c other o standing apart is = shown-same other o standing (without_client c standing) (λ surface. ended-other c other surface standing apart) is

-- ---- the desktop

-- one client, and the others
module _ (c : ℕ) (new : Desktop) (apart : AreApart new.standing) (here : AreShown c (owned_in new c) new.standing) (others : (other : ℕ) → c ≢ other
    → AreShown other (owned_in new other) new.standing) where
  each-shown : ShownStand new
  each-shown = record { apart = apart; each = λ other. at other (c == other) refl }
    where
      at : (other : ℕ) (b : Bool) → (c == other) ≡ b → AreShown other (owned_in new other) new.standing
      at other true e = subst (λ n. AreShown n (owned_in new n) new.standing) (eqb-true c other e) here
      at other false e = others other (eqb-false c other e)

-- a client is told something, where its mapped toplevels and those of the others stand
told-shown : (c : ℕ) (r there : Resident) (q : Peer) (d : Desktop) → client_at c d ≡ Some there → AreApart d.standing → AreShown c r.owned d.standing
    → ((other : ℕ) → c ≢ other → AreShown other (owned_in d other) d.standing)
    → ShownStand (become c r q d)
told-shown c r there q d is apart here others = by q.status
  where
    owned-here : (s : Option Cause) → owned_in (become_by s c r q d) c ≡ owned_of (Some (left_by s r q))
    owned-here s = ap owned_of (client-become s c r q d there is)

    owned-other : (x : Option Resident) (other : ℕ) → c ≢ other → owned_of (client_in (with_number c x d.clients) other) ≡ owned_in d other
    owned-other x other true≢false = ap owned_of (number-other d.clients c other x true≢false)

    by : (s : Option Cause) → ShownStand (become_by s c r q d)
    by None =
        each-shown c (become_by None c r q d) apart (subst (λ o. AreShown c o d.standing) (sym (owned-here None)) here)
        (λ other true≢false. subst (λ o. AreShown other o d.standing) (sym (owned-other (Some (record r { peer = q })) other true≢false)) (others other true≢false))
    by (Some cause) =
        each-shown c (become_by (Some cause) c r q d) (apart-left _ d.standing apart)
        (subst (λ o. AreShown c o (without_client c d.standing)) (sym (owned-here (Some cause))) (ended-shown c d.standing))
        (λ other true≢false. subst (λ o. AreShown other o (without_client c d.standing)) (sym (owned-other (Some (resident_of q)) other true≢false))
        (ended-stay c other (owned_in d other) d.standing true≢false (others other true≢false)))

-- a client is told something
pub become-shown : (c : ℕ) (r there : Resident) (q : Peer) (d : Desktop) → client_at c d ≡ Some there → r.owned ≡ there.owned → ShownStand d → ShownStand (become c r q d)
become-shown c r there q d is same stand =
    told-shown c r there q d is stand.apart (subst (λ o. AreShown c o d.standing) (ap owned_of is ∙ sym same) (stand.each c)) (λ other true≢false. stand.each other)
