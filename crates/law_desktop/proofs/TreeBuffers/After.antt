-- The buffers of some surfaces stand for those of all, where those that pass are among them.
use Rattle.std.proofs.Common.{◌≡◌, ℕ, List, ◌++◌, Bool, true, ap, ◌∙◌, ◌⊎◌, inl, inr}
use Rattle.std.proofs.lemmas.Bool.{and_from, eqb-true}
use Rattle.std.proofs.lemmas.List.Elements.{Contains-append_cases}
use Rattle.std.specs.Prelude.{◌==◌, ◌&&◌, not}
use Rattle.std.specs.List.{Contains, list_any}
use Rattle.std.specs.Option.{option_map}
use Rattle.spec_desktop.specs.Buffers.{Buffer as Made}
use Rattle.wl_store.specs.Stores.{Stock}
use Rattle.wl_surface.specs.Request.{Buffer}
use Rattle.wl_surface.specs.Surfaces.{is_used}
use Rattle.spec_desktop.specs.Changing.{after_all}
use Rattle.spec_desktop.specs.Desktop.{Resident}
use Rattle.spec_desktop.specs.Step.{is_number, is_over, letting_go, with_peer}
use Rattle.law_desktop.specs.TreeBuffersLaws.{AreAmong, AreOne, IsByNumber, had_in, has_number}
use Rattle.law_desktop.proofs.TreeBuffers.Alike.{lets-alike}
use Rattle.law_desktop.proofs.TreeBuffers.Lists.{any-in, in-any}
use Rattle.law_desktop.proofs.Truth.{and-left, and-right, truth}

-- ---- some buffers of all

pub one-more : (all these : List Buffer) → AreOne all → AreAmong these all → AreOne (all ++ these)
one-more all these one among b c in_b in_c e = one b c (whole b in_b) (whole c in_c) e
  where
    either : (x : Buffer) → Contains all x ⊎ Contains these x → Contains all x
    either x (inl within) = within
    either x (inr within) = among x within

    whole : (x : Buffer) → Contains (all ++ these) x → Contains all x
    whole x within = either x (Contains-append_cases all these x within)

-- one that passes both tests is among all just where it is among these
pub covers : (q p : Buffer → Bool) (all these : List Buffer) → IsByNumber q → IsByNumber p → AreOne all → AreAmong these all
    → ((b : Buffer) → Contains all b → p b ≡ true → has_number b.number these ≡ true)
    → list_any (λ b. q b && p b) all ≡ list_any (λ b. q b && p b) these
covers q p all these q_by p_by one among each =
    truth (list_any (λ b. q b && p b) all) (list_any (λ b. q b && p b) these) there back
  where
    back : list_any (λ b. q b && p b) these ≡ true → list_any (λ b. q b && p b) all ≡ true
    back any =
        let found = any-in (λ b. q b && p b) these any in
        in-any (λ b. q b && p b) all found.item (among found.item found.within) found.passes

    there : list_any (λ b. q b && p b) all ≡ true → list_any (λ b. q b && p b) these ≡ true
    there any =
        let found = any-in (λ b. q b && p b) all any in
        let b : Buffer = found.item in
        let other = any-in (λ c. c.number == b.number) these (each b found.within (and-right (q b) (p b) found.passes)) in
        let c : Buffer = other.item in
        let number : c.number ≡ b.number = eqb-true c.number b.number other.passes in
        let object : c.object ≡ b.object = (one c b (among c other.within) found.within number).1 in
        in-any (λ b. q b && p b) these c other.within
        (and_from (q c) (p c) (q_by c b number object ∙ and-left (q b) (p b) found.passes)
        (p_by c b number object ∙ and-right (q b) (p b) found.passes))

-- ---- those that are over

over-by : (r : Resident) → IsByNumber (is_over r)
over-by r b c number object = ap (λ n. over_at n b.object) number ∙ ap (over_at c.number) object
  where
    over_at : ℕ → ℕ → Bool
    over_at n o = not (is_number n (option_map (λ (made : Made). made.number) (r.peer.buffers o))) && not (is_used n r.owned.surfaces)

pub after-these : (old new : Resident) (these : List Buffer) → AreOne (had_in old.owned.surfaces)
    → AreAmong these (had_in old.owned.surfaces)
    → ((b : Buffer) → Contains (had_in old.owned.surfaces) b → is_over new b ≡ true → has_number b.number these ≡ true)
    → after_all old new ≡ letting_go these new
after-these old new these one among each =
    let had : List Buffer = had_in old.owned.surfaces in
    ap (λ (stores : Stock). with_peer (record new.peer { stores = stores }) new)
    (lets-alike (is_over new) had these new.peer.stores (over-by new) (one-more had these one among)
    (λ n. covers (λ b. b.number == n) (is_over new) had these (λ b c number object. ap (λ m. m == n) number) (over-by new) one among each))
