-- What the map of entries says of ids.
use Rattle.std.proofs.Common.{◌≡◌, ◌≢◌, ℕ, ◌<◌, ◌≤◌, Bool, true, false, not, cond, nat_le, is_some, Option, Some, None, IsSome, List, [], ◌∷◌, length, refl, subst, sym, ◌∙◌, ap, arith}
use Rattle.std.proofs.lemmas.Bool.Decides.{nat_tests}
use Rattle.std.specs.declared.cmp.Ordering.TheVariants.{Less}
use Rattle.std.specs.declared.ops.Bound.TheVariants.{Excluded, Unbounded}
use Rattle.std.specs.Ordering.{nat_cmp, is_eq, is_gt}
use Rattle.std.specs.BTreeMap.{BTreeMap, UpdatesBy}
use Rattle.std.specs.BTreeMap.Range.{IsRangeOf}
use Rattle.wl_table.specs.declared.entry.Entry.{Entry}
use Rattle.wl_table.specs.declared.entry.TableError.TheVariants.{BadId, InUse, TooMany}
use Rattle.wl_table.specs.Objects.{Held, entry_of, is_client_id, refusal, HoldsAt}

another : (id other : ℕ) → other ≢ id → is_eq (nat_cmp id other) ≡ false
another id other apart = grind (arith, nat_tests)

less : (a b : ℕ) → a < b → nat_cmp a b ≡ Less
less a b h = grind (arith, nat_tests)

below : (a b : ℕ) → nat_cmp a b ≡ Less → a < b
below a b h = grind (arith, nat_tests)

at_most : (a b : ℕ) → is_gt (nat_cmp a b) ≡ false → a ≤ b
at_most a b h = grind (arith, nat_tests)

-- a map that is updated at an id
pub HoldsAt-updates : (held : Held) (old new : BTreeMap ℕ Entry) (id : ℕ) (entry : Option Entry) → old.entries ≡ held → UpdatesBy nat_cmp (nat_cmp id) old new entry → HoldsAt held new.entries id entry
HoldsAt-updates held old new id entry is updates = record {
  here = updates.1;
  others = λ other apart. updates.2 other (another id other apart) ∙ ap (λ (u : Held). entry_of u other) is;
}

chosen : (a b c : Bool) → a ≡ true → b ≡ false → c ≡ false → cond (not a) (Some BadId) (cond b (Some InUse) (cond c (Some TooMany) None)) ≡ None
chosen a b c d e f = rw (d, e, f) refl

client_id : (id : ℕ) → 0 < id → id ≤ 0xfeffffff → is_client_id id ≡ true
client_id id least most = grind (arith, nat_tests)

room_left : (n : ℕ) → n < 8192 → nat_le 8192 n ≡ false
room_left n h = grind (arith, nat_tests)

pub allowed : (held : Held) (id : ℕ) → 0 < id → id ≤ 0xfeffffff → false ≡ is_some (entry_of held id) → length held < 8192 → refusal held id ≡ None
allowed held id least most free room =
    chosen (is_client_id id) (is_some (entry_of held id)) (nat_le 8192 (length held)) (client_id id least most) (sym free) (room_left (length held) room)

-- what is no `Some` is none
none_from : (o : Option Entry) → (IsSome o → ⊥) → o ≡ None
none_from None h = refl
none_from (Some e) h = absurd (h refl)

pub next_held : (held : Held) (map : BTreeMap ℕ Entry) (id next : ℕ) (entry : Entry) (above rest : List (ℕ × Entry)) → map.entries ≡ held → IsRangeOf nat_cmp (Excluded id) Unbounded map above
    → above ≡ (next, entry) ∷ rest → (id < next) × IsSome (entry_of held next) × ((other : ℕ) → id < other → other < next → entry_of held other ≡ None)
next_held held map id next entry above rest is range first =
    let r : IsRangeOf nat_cmp (Excluded id) Unbounded map ((next, entry) ∷ rest) = subst (λ (u : List (ℕ × Entry)). IsRangeOf nat_cmp (Excluded id) Unbounded map u) first range in (
      below id next r.1.0.0,
      ap (λ (u : Held). is_some (entry_of u next)) (sym is) ∙ ap is_some r.1.1,
      λ other over under. none_from (entry_of held other) (λ some.
          let there : IsSome (entry_of map.entries other) = ap (λ (u : Held). is_some (entry_of u other)) is ∙ some in
          let least : next ≤ other = at_most next other (r.2 other (less id other over, tt) there) in
          omega arith),
    )

pub none_held : (held : Held) (map : BTreeMap ℕ Entry) (id : ℕ) (above : List (ℕ × Entry)) → map.entries ≡ held → IsRangeOf nat_cmp (Excluded id) Unbounded map above → above ≡ [] → (other : ℕ)
    → id < other → entry_of held other ≡ None
none_held held map id above is range none other over =
    ap (λ (u : Held). entry_of u other) (sym is) ∙ range.5 none other (less id other over, tt)
