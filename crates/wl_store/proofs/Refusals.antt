-- What refuses a call, by the store that was found.
use Rattle.std.proofs.Common.{◌≡◌, ℕ, ◌+◌, ◌-◌, ◌<◌, ◌≤◌, true, false, cond, List, [], ◌∷◌, ◌++◌, ◌||◌, replicate, length, Some, None, get_or, eqb, arith, ap, sym, ◌∙◌}
use Rattle.std.specs.List.{find}
use Rattle.std.specs.Option.{option_map}
use Rattle.std.specs.Prelude.{ℤ, is_some, nat_le, nat_lt}
use Rattle.std.proofs.lemmas.Bool.Decides.{nat_tests}
use Rattle.wl_store.specs.declared.stores.StoreError.TheVariants.{OutOfRange}
use Rattle.wl_store.specs.Stores.{Held, IsPlace, IsSound, Stock, bytes_of, store_at, total_size, can_hold, created, let_go, with_change, without_store, create_refusal, is_full, new_refusal, next_after}
use Rattle.wl_store.specs.Stores.{resize_refusal, size_refusal, write_refusal}
use Rattle.wl_store.proofs.Places.{place-reads}

-- what is read at its place is the store of that number
pub store-read : (held : List Held) (made : ℕ) (stock : Stock) (number place : ℕ) (s : Held) → record { held = held; made = made } ≡ stock → IsPlace held number place → s ≡ get_or held place s
    → store_at number stock ≡ Some s
store-read held made stock number place s v p e = ap (store_at number) (sym v) ∙ place-reads held number place s p e

-- the bytes of a store that was found
pub bytes-found : (held : List Held) (made : ℕ) (stock : Stock) (number : ℕ) (s : Held) (bytes : List ℕ) → record { held = held; made = made } ≡ stock → find (λ s. eqb s.number number) held ≡ Some s
    → bytes ≡ s.bytes → Some bytes ≡ bytes_of number stock
bytes-found held made stock number s bytes v e b = ap Some b ∙ ap (option_map (λ (t : Held). t.bytes)) (sym e) ∙ ap (bytes_of number) v

pub size-found : (held : List Held) (made : ℕ) (stock : Stock) (number : ℕ) (s : Held) (size : ℕ) → record { held = held; made = made } ≡ stock → find (λ s. eqb s.number number) held ≡ Some s
    → size ≡ length s.bytes
    → Some size ≡ option_map (λ (t : Held). length t.bytes) (store_at number stock)
size-found held made stock number s size v e l = ap Some l ∙ ap (option_map (λ (t : Held). length t.bytes)) (sym e) ∙ ap (λ st. option_map (λ (t : Held). length t.bytes) (store_at number st)) v

-- no bytes where none was found
pub bytes-missing : (held : List Held) (made : ℕ) (stock : Stock) (number : ℕ) → record { held = held; made = made } ≡ stock → find (λ s. eqb s.number number) held ≡ None → bytes_of number stock ≡ None
bytes-missing held made stock number v e = ap (bytes_of number) (sym v) ∙ ap (option_map (λ (t : Held). t.bytes)) e

pub size-missing : (held : List Held) (made : ℕ) (stock : Stock) (number : ℕ) → record { held = held; made = made } ≡ stock → find (λ s. eqb s.number number) held ≡ None
    → option_map (λ (t : Held). length t.bytes) (store_at number stock) ≡ None
size-missing held made stock number v e = ap (λ st. option_map (λ (t : Held). length t.bytes) (store_at number st)) (sym v) ∙ ap (option_map (λ (t : Held). length t.bytes)) e

-- the next number above
pub next-found : (held : List Held) (made : ℕ) (stock : Stock) (number : ℕ) (s : Held) (next : ℕ) → record { held = held; made = made } ≡ stock → find (λ s. nat_lt number s.number) held ≡ Some s
    → next ≡ s.number → Some next ≡ next_after number stock
next-found held made stock number s next v e n = ap Some n ∙ ap (option_map (λ (t : Held). t.number)) (sym e) ∙ ap (next_after number) v

pub next-missing : (held : List Held) (made : ℕ) (stock : Stock) (number : ℕ) → record { held = held; made = made } ≡ stock → find (λ s. nat_lt number s.number) held ≡ None → next_after number stock ≡ None
next-missing held made stock number v e = ap (next_after number) (sym v) ∙ ap (option_map (λ (t : Held). t.number)) e

write-fits : (size end : ℕ) → end ≤ size → cond (nat_lt size end) (Some OutOfRange) None ≡ None
write-fits size end h = grind (arith, nat_tests)

pub write-accepted : (stock : Stock) (number at count : ℕ) (s : Held) → store_at number stock ≡ Some s → at + count ≤ length s.bytes → write_refusal number at count stock ≡ None
write-accepted stock number at count s e h = rw e (write-fits (length s.bytes) (at + count) h)

write-passes : (size end : ℕ) → size < end → cond (nat_lt size end) (Some OutOfRange) None ≡ Some OutOfRange
write-passes size end h = grind (arith, nat_tests)

pub write-refused : (stock : Stock) (number at count : ℕ) (s : Held) → store_at number stock ≡ Some s → length s.bytes < at + count → write_refusal number at count stock ≡ Some OutOfRange
write-refused stock number at count s e h = rw e (write-passes (length s.bytes) (at + count) h)

lt-true : (n m : ℕ) → n < m → nat_lt n m ≡ true
lt-true n m h = grind (arith, nat_tests)

-- No more use can be counted.
pub held-out : (stock : Stock) (number : ℕ) (s : Held) → store_at number stock ≡ Some s → s.uses ≡ 4294967295 → false ≡ can_hold number stock
held-out stock number s e h = rw (e, h)

-- One more can be counted.
pub held-more : (stock : Stock) (number : ℕ) (s : Held) → store_at number stock ≡ Some s → s.uses < 4294967295 → true ≡ can_hold number stock
held-more stock number s e h = rw (e, lt-true s.uses 4294967295 h)

le-true : (n m : ℕ) → n ≤ m → nat_le n m ≡ true
le-true n m h = grind (arith, nat_tests)

le-false : (n m : ℕ) → m < n → nat_le n m ≡ false
le-false n m h = grind (arith, nat_tests)

-- The last use goes, and the store with it.
pub let_go-last : (stock : Stock) (number : ℕ) (s : Held) → store_at number stock ≡ Some s → s.uses ≤ 1 → let_go number stock ≡ without_store number stock
let_go-last stock number s e h = rw (e, le-true s.uses 1 h)

-- One use of several goes.
pub let_go-other : (stock : Stock) (number : ℕ) (s : Held) → store_at number stock ≡ Some s → 1 < s.uses → let_go number stock ≡ with_change number (λ u. record u { uses = u.uses - 1 }) stock
let_go-other stock number s e h = rw (e, le-false s.uses 1 h)

pub live : (stock : Stock) (number : ℕ) (s : Held) → store_at number stock ≡ Some s → true ≡ is_some (store_at number stock)
live stock number s e = rw e

-- what refuses a new store, while there is a place and a number left
pub create-refused : (held : List Held) (made total : ℕ) (stock : Stock) (size : ℤ) → record { held = held; made = made } ≡ stock → IsSound held made total → is_full stock ≡ false
    → create_refusal size stock ≡ new_refusal total size
create-refused held made total stock size v u e = rw e (ap (λ n. new_refusal n size) (sym (u.summed ∙ ap total_size v)))

-- what refuses a new size, by the store that was read
pub resize-refused : (held : List Held) (made total : ℕ) (stock : Stock) (number place : ℕ) (size : ℤ) (s : Held) → record { held = held; made = made } ≡ stock → IsSound held made total
    → IsPlace held number place → s ≡ get_or held place s
    → resize_refusal number size stock ≡ size_refusal total (length s.bytes) size
resize-refused held made total stock number place size s v u p e =
    rw (store-read held made stock number place s v p e) (ap (λ n. size_refusal n (length s.bytes) size) (sym (u.summed ∙ ap total_size v)))

-- whether a use can be counted, by those that were read
pub can-hold-read : (stock : Stock) (number uses : ℕ) (s : Held) → store_at number stock ≡ Some s → uses ≡ s.uses → nat_lt uses 4294967295 ≡ can_hold number stock
can-hold-read stock number uses s e u = rw (u, e)

-- A store that wasn't found isn't there.
pub not-there : (read held : List Held) (made : ℕ) (stock : Stock) (number : ℕ) → read ≡ held → record { held = held; made = made } ≡ stock
    → find (λ s. eqb s.number number) read ≡ None → store_at number stock ≡ None
not-there read held made stock number r v e = ap (store_at number) (sym v) ∙ ap (find (λ s. eqb s.number number)) (sym r) ∙ e

pub not-live : (stock : Stock) (number : ℕ) → store_at number stock ≡ None → false ≡ is_some (store_at number stock)
not-live stock number e = rw e

-- there is a number left
pub number-left : (n made : ℕ) → (eqb n 64 || eqb made 4294967295) ≡ false → made < 4294967296 → made < 4294967295
number-left n made e h = grind (arith, nat_tests)

-- a store put at the end
pub made-is : (held now : List Held) (made size : ℕ) (stock : Stock) (x : Held) → now ≡ held ++ x ∷ [] → x ≡ record { number = made + 1; bytes = replicate size 0; uses = 1 }
    → record { held = held; made = made } ≡ stock → record { held = now; made = made + 1 } ≡ created size stock
made-is held now made size stock x e q v =
    let stock_of : List Held → Stock = λ h. record { held = h; made = made + 1 } in
    ap stock_of (e ∙ ap (λ (u : Held). held ++ u ∷ []) q) ∙ ap (created size) v
