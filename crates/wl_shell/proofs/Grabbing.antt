-- Popups with a grab are dismissed one after another, the newest first, with those that descend from them.
use Rattle.std.proofs.Common.{◌≡◌, ◌≤◌, ◌<◌, ℕ, List, [], ◌∷◌, Bool, true, false, Option, Some, None, inl, inr, map, refl, ap, ap₂, subst, sym, ◌∙◌, arith}
use Rattle.std.specs.Prelude.{◌==◌, ◌&&◌, ◌||◌, ◌⊎◌, IfSome, cond, filter, flat_map, fold, if◌then◌else◌, not}
use Rattle.std.specs.List.{list_any}
use Rattle.std.specs.Option.{option_map_or}
use Rattle.std.proofs.lemmas.Bool.{eqb-true}
use Rattle.wl_shell.specs.Agreement.{IsShell}
use Rattle.wl_shell.specs.Descent.{AreYounger}
use Rattle.wl_shell.specs.InOrder.{AreReleased, GrabbingFound, HasOrder, IsOnly, newest_first, with_dismissed}
use Rattle.wl_shell.specs.PopupsKept.{reaches_grab}
use Rattle.wl_shell.proofs.Descending.{IsClosed, all-closed, grabs-reached, has_grab, no-parent-among, or-first, or-second, parent-among, same-id}
use Rattle.wl_shell.proofs.Dismissing.{absorbed, xdg-done}
use Rattle.wl_shell.proofs.Following.{AreSorted, IsNewestLeft, LeavesOthers, Rises, and-left, any-none, done-role, each-newest, few-popups, gone-kept, gone_popped, is_left, next-by}
use Rattle.wl_shell.proofs.Following.{only-one, order-stays, popups-gone, rising-sorted}
use Rattle.wl_shell.proofs.Ordered.{Each, IsAmong, IsIts, all-its, among-popups, at-among, each-map}
use Rattle.wl_shell.proofs.Parents.{Each as EachPopup}
use Rattle.wl_shell.proofs.Reading.{any-in-order}
use Rattle.wl_surface.specs.State.{History}
use Rattle.wl_shell.specs.Kept.{Kept, kept_of}
use Rattle.wl_shell.specs.Popups.{Popped, dismiss, dismissed_after, dismissed_among, dismissed_with, is_among, is_parent_of, popped_of, popup_changed, popup_in, popups_of}
use Rattle.wl_shell.specs.Popups.{with_popup_role}
use Rattle.wl_shell.specs.Shell.{Shell, XdgSurface}

-- ---- lists

as-each : (P : Popped → Type 0) (qs : List Popped) → EachPopup P qs → Each P qs
as-each P [] all = tt
as-each P (q ∷ qs) all = (all.0, as-each P qs all.1)

each-within : (P : Popped → Type 0) (qs : List Popped) → ((q : Popped) → IsAmong q qs → P q) → Each P qs
each-within P [] all = tt
each-within P (q ∷ qs) all = (all q (inl refl), each-within P qs (λ r among. all r (inr among)))

each-mapped : (P Q : Popped → Type 0) (f : Popped → Popped) → ((q : Popped) → P q → Q (f q)) → (qs : List Popped) → Each P qs → Each Q (map f qs)
each-mapped P Q f so [] all = tt
each-mapped P Q f so (q ∷ qs) all = (so q all.0, each-mapped P Q f so qs all.1)

each-unmapped : (Q : Popped → Type 0) (f : Popped → Popped) (qs : List Popped) → Each Q (map f qs) → Each (λ q. Q (f q)) qs
each-unmapped Q f [] all = tt
each-unmapped Q f (q ∷ qs) all = (all.0, each-unmapped Q f qs all.1)

filter-same : (S T : Popped → Bool) (qs : List Popped) → Each (λ q. S q ≡ T q) qs → filter S qs ≡ filter T qs
filter-same S T [] same = refl
filter-same S T (q ∷ qs) same =
    ap (λ (b : Bool). cond b (q ∷ filter S qs) (filter S qs)) same.0 ∙ ap (λ (rs : List Popped). cond (T q) (q ∷ rs) rs) (filter-same S T qs same.1)

any-of : (T : Popped → Bool) (p : Popped) (qs : List Popped) → IsAmong p qs → T p ≡ true → list_any T qs ≡ true
any-of T p [] among passes = absurd among
any-of T p (q ∷ qs) (inl same) passes = or-first (T q) (list_any T qs) (ap T same ∙ passes)
any-of T p (q ∷ qs) (inr after) passes = or-second (T q) (list_any T qs) (any-of T p qs after passes)

-- ---- those that pass, and whatever descends from them

module _ (is : Popped → Bool) (P : ℕ → Type 0) where
  -- it holds of one that passes, and of one whose parent it holds of
  abbrev Spreads : Popped → Type 0
  Spreads q = (is q ≡ true → P q.xdg.id) × ((parent : ℕ) → q.popup.parent ≡ Some parent → P parent → P q.xdg.id)

  one-more : (q : Popped) (ids : List ℕ) → Spreads q → ((id : ℕ) → is_among id ids ≡ true → P id) → (id : ℕ) → is_among id (dismissed_after is ids q) ≡ true → P id
  one-more q ids spreads first id among = at (is q) (list_any (λ id. is_parent_of id q.popup) ids) refl refl among
    where
      new : P q.xdg.id → ((q.xdg.id == id) || is_among id ids) ≡ true → P id
      new here among = which (q.xdg.id == id) refl among
        where
          which : (b : Bool) → (q.xdg.id == id) ≡ b → (b || is_among id ids) ≡ true → P id
          which true same among = subst P (eqb-true q.xdg.id id same) here
          which false same among = first id among

      by_parent : list_any (λ id. is_parent_of id q.popup) ids ≡ true → P q.xdg.id
      by_parent any = from q.popup.parent refl
        where
          from : (o : Option ℕ) → q.popup.parent ≡ o → P q.xdg.id
          from None e = absurd (let clash : false ≡ true = sym (no-parent-among q.popup ids e) ∙ any in cc)
          from (Some parent) e = spreads.1 parent e (first parent (sym (parent-among q.popup parent ids e) ∙ any))

      at : (a b : Bool) → is q ≡ a → list_any (λ id. is_parent_of id q.popup) ids ≡ b → is_among id (if a || b then q.xdg.id ∷ ids else ids) ≡ true → P id
      at true b e f among = new (spreads.0 e) among
      at false true e f among = new (by_parent f) among
      at false false e f among = first id among

  of-all : (qs : List Popped) (ids : List ℕ) → Each Spreads qs → ((id : ℕ) → is_among id ids ≡ true → P id) → (id : ℕ) → is_among id (fold (dismissed_after is) ids qs) ≡ true → P id
  of-all [] ids all first = first
  of-all (q ∷ qs) ids all first = of-all qs (dismissed_after is ids q) all.1 (one-more q ids all.0 first)

-- ---- numbers

-- a parent is older
older : (qs : List Popped) → AreYounger qs → AreSorted Rises qs → (s q : Popped) → IsAmong s qs → IsAmong q qs → q.popup.parent ≡ Some s.xdg.id → s.popup.number < q.popup.number
older [] young sorted s q among also parent = absurd among
older (r ∷ rs) young sorted s q among (inl same) parent =
    let its : is_parent_of s.xdg.id r.popup ≡ true =
    ap (λ (t : Popped). is_parent_of s.xdg.id t.popup) same ∙ ap (λ (o : Option ℕ). option_map_or (λ (parent : ℕ). parent == s.xdg.id) o false) parent ∙ same-id s.xdg.id in
    absurd (let clash : false ≡ true = sym young.0 ∙ any-of (λ t. is_parent_of t.xdg.id r.popup) s (r ∷ rs) among its in cc)
older (r ∷ rs) young sorted s q (inl same) (inr after) parent =
    subst (λ (t : Popped). t.popup.number < q.popup.number) same (at-among (λ t. r.popup.number < t.popup.number) q rs after sorted.0)
older (r ∷ rs) young sorted s q (inr before) (inr after) parent = older rs young.1 sorted.1 s q before after parent

-- one number names one
one-number : (qs : List Popped) → AreSorted Rises qs → (s q : Popped) → IsAmong s qs → IsAmong q qs → s.popup.number ≡ q.popup.number → s ≡ q
one-number [] sorted s q among also same = absurd among
one-number (r ∷ rs) sorted s q (inl one) (inl other) same = sym one ∙ other
one-number (r ∷ rs) sorted s q (inl one) (inr after) same =
    let less = at-among (λ t. r.popup.number < t.popup.number) q rs after sorted.0 in
    let here = ap (λ (t : Popped). t.popup.number) one in
    absurd (omega (arith, less, here, same))
one-number (r ∷ rs) sorted s q (inr after) (inl one) same =
    let less = at-among (λ t. r.popup.number < t.popup.number) s rs after sorted.0 in
    let here = ap (λ (t : Popped). t.popup.number) one in
    absurd (omega (arith, less, here, same))
one-number (r ∷ rs) sorted s q (inr before) (inr after) same = one-number rs sorted.1 s q before after same

-- ---- tests

same-left : (a b d : Bool) → (b ≡ true → a ≡ true) → (a ≡ true → d ≡ false → b ≡ true) → (a && not d) ≡ (b && not d)
same-left true true d fewer settled = refl
same-left true false true fewer settled = refl
same-left true false false fewer settled = sym (settled refl refl)
same-left false true d fewer settled = absurd (let clash : false ≡ true = fewer refl in cc)
same-left false false d fewer settled = refl

none-lost : (a b d : Bool) → (a ≡ true → d ≡ false → b ≡ true) → ((a && not b) && not d) ≡ false
none-lost true true d settled = refl
none-lost true false true settled = refl
none-lost true false false settled = sym (settled refl refl)
none-lost false b d settled = refl

-- ---- the newest is dismissed

module _ (kept : ℕ → Option Kept) (histories : ℕ → Option History) (shell : Shell) (agrees : IsShell kept histories shell) (order : HasOrder shell) (other : ℕ) (p : Popped)
    (only : IsOnly shell other p) (passes : is_left has_grab shell p ≡ true) (best : IsNewestLeft has_grab shell p) where
  abbrev id : ℕ
  id = p.xdg.id

  abbrev ps : List Popped
  ps = popups_of shell

  abbrev new : Shell
  new = with_dismissed id shell

  -- those that went, and those that go then
  abbrev gone : List ℕ
  gone = dismissed_with has_grab shell

  abbrev later : List ℕ
  later = dismissed_with has_grab new

  abbrev dismissed : Popped → Popped
  dismissed q = record { xdg = popup_changed dismiss q.xdg; object = with_popup_role dismiss q.object; popup = dismiss q.popup }

  new-order : HasOrder new
  new-order = order-stays id shell order

  sorted : AreSorted Rises ps
  sorted = rising-sorted ps order.rising

  -- no more go then

  abbrev WentAt : ℕ → Type 0
  WentAt i = is_among i gone ≡ true

  fewer : (i : ℕ) → is_among i later ≡ true → is_among i gone ≡ true
  fewer =
      of-all has_grab WentAt (popups_of new) [] (subst (λ (qs : List Popped). Each (Spreads has_grab WentAt) qs) (sym (popups-gone id shell)) spread)
      (λ i none. absurd (cc))
    where
      at : (q : Popped) (b : Bool) → IsClosed has_grab gone q → Spreads has_grab WentAt (cond b (dismissed q) q)
      at q true closed = ((λ e. absurd (cc)), closed.1)
      at q false closed = closed

      spread : Each (Spreads has_grab WentAt) (map (gone_popped id) ps)
      spread =
          each-mapped (IsClosed has_grab gone) (Spreads has_grab WentAt) (gone_popped id) (λ q closed. at q (q.xdg.id == id) closed) ps
          (as-each (IsClosed has_grab gone) ps (all-closed has_grab ps [] order.younger))

  -- One that goes goes then too, or is this one or younger.

  abbrev IsLate : ℕ → Type 0
  IsLate i = (s : Popped) × IsAmong s ps × (s.xdg.id ≡ i) × (p.popup.number ≤ s.popup.number)

  abbrev Stays : ℕ → Type 0
  Stays i = (is_among i later ≡ true) ⊎ IsLate i

  still-closed : Each (λ q. IsClosed has_grab later (gone_popped id q)) ps
  still-closed =
      each-unmapped (IsClosed has_grab later) (gone_popped id) ps
      (subst (λ (qs : List Popped). Each (IsClosed has_grab later) qs) (popups-gone id shell)
      (as-each (IsClosed has_grab later) (popups_of new) (all-closed has_grab (popups_of new) [] new-order.younger)))

  by-grab : (q : Popped) → IsClosed has_grab later (gone_popped id q) → q.popup.has_grab ≡ true → Stays q.xdg.id
  by-grab q closed grab = at (q.xdg.id == id) refl
    where
      at : (b : Bool) → (q.xdg.id == id) ≡ b → Stays q.xdg.id
      at true e = inr (p, among-popups shell other p only, sym (eqb-true q.xdg.id id e), omega arith)
      at false e = let same = subst (λ (r : Popped). IsClosed has_grab later r) (gone-kept id q e) closed in inl (same.0 grab)

  by-parent : (q : Popped) → IsAmong q ps → IsClosed has_grab later (gone_popped id q) → (parent : ℕ) → q.popup.parent ≡ Some parent → Stays parent → Stays q.xdg.id
  by-parent q among closed parent e (inl goes) = inl (at (q.xdg.id == id) closed)
    where
      at : (b : Bool) → IsClosed has_grab later (cond b (dismissed q) q) → is_among q.xdg.id later ≡ true
      at true closed = closed.1 parent e goes
      at false closed = closed.1 parent e goes
  by-parent q among closed parent e (inr late) =
      let less = older ps order.younger sorted late.0 q late.1 among (e ∙ ap Some (sym late.2)) in
      let le = late.3 in
      inr (q, among, refl, omega (arith, less, le))

  stays : (i : ℕ) → is_among i gone ≡ true → Stays i
  stays =
      of-all has_grab Stays ps []
      (each-within (Spreads has_grab Stays) ps
      (λ q among. let closed = at-among (λ q. IsClosed has_grab later (gone_popped id q)) q ps among still-closed in (by-grab q closed, by-parent q among closed)))
      (λ i none. absurd (cc))

  -- what isn't dismissed then goes then

  abbrev IsSettled : Popped → Type 0
  IsSettled r = is_among r.xdg.id gone ≡ true → r.popup.is_dismissed ≡ false → is_among r.xdg.id later ≡ true

  settled-one : (q : Popped) → IsAmong q ps → IsSettled (gone_popped id q)
  settled-one q among = at (q.xdg.id == id) refl
    where
      its : (s : Popped) → IsAmong s ps → IsIts shell s
      its s among = at-among (IsIts shell) s ps among (all-its shell agrees.apart)

      not-late : (q.xdg.id == id) ≡ false → is_left has_grab shell q ≡ true → IsLate q.xdg.id → ⊥
      not-late apart left late =
          let here : (late.0.xdg.id == q.xdg.id) ≡ true = ap (λ (i : ℕ). i == q.xdg.id) late.2 ∙ same-id q.xdg.id in
          let one = only-one kept histories shell agrees q q.xdg.surface (its q among) late.0 (its late.0 late.1) here in
          let more = late.3 in
          let same = ap (λ (s : Popped). s.popup.number) one in
          let le = at-among (λ q. is_left has_grab shell q ≡ true → q.popup.number ≤ p.popup.number) q ps among best left in
          let number : q.popup.number ≡ p.popup.number = omega (arith, more, same, le) in
          let is : q ≡ p = one-number ps sorted q p among (among-popups shell other p only) number in
          let clash : false ≡ true = sym apart ∙ ap (λ (s : Popped). s.xdg.id == id) is ∙ same-id id in
          cc

      at : (b : Bool) → (q.xdg.id == id) ≡ b → IsSettled (cond b (dismissed q) q)
      at true e goes free = absurd (cc)
      at false e goes free = by (stays q.xdg.id goes)
        where
          left : is_left has_grab shell q ≡ true
          left = ap₂ (λ a d. a && not d) goes free

          by : Stays q.xdg.id → is_among q.xdg.id later ≡ true
          by (inl goes) = goes
          by (inr late) = absurd (not-late e left late)

  all-settled : Each IsSettled (popups_of new)
  all-settled =
      subst (λ (qs : List Popped). Each IsSettled qs) (sym (popups-gone id shell))
      (each-mapped (λ q. IsAmong q ps) IsSettled (gone_popped id) settled-one ps (each-within (λ q. IsAmong q ps) ps (λ q among. among)))

  -- ---- so the same others are left

  abbrev is_lost : Popped → Bool
  is_lost r = (is_among r.xdg.id gone && not (is_among r.xdg.id later)) && not r.popup.is_dismissed

  no-one-lost : list_any is_lost (flat_map popped_of new) ≡ false
  no-one-lost =
      sym (any-in-order is_lost new)
      ∙ any-none is_lost (popups_of new)
      (each-map IsSettled (λ r. is_lost r ≡ false) (λ r settled. none-lost (is_among r.xdg.id gone) (is_among r.xdg.id later) r.popup.is_dismissed settled) (popups_of new) all-settled)

  same-one : (x : XdgSurface) → ((is_among x.id gone && not (is_among x.id later)) ≡ true → IfSome (popup_in x.role) (λ popup. (popup.is_dismissed ≡ true) × (popup.has_grab ≡ false)))
      → dismissed_among later x ≡ dismissed_among gone x
  same-one x done = at (is_among x.id gone) (is_among x.id later) (fewer x.id) done
    where
      at : (a b : Bool) → (b ≡ true → a ≡ true) → ((a && not b) ≡ true → IfSome (popup_in x.role) (λ popup. (popup.is_dismissed ≡ true) × (popup.has_grab ≡ false)))
          → (if b then popup_changed dismiss x else x) ≡ (if a then popup_changed dismiss x else x)
      at true true more done = refl
      at true false more done = sym (xdg-done x (done refl))
      at false true more done = absurd (let clash : false ≡ true = more refl in cc)
      at false false more done = refl

  same-all : (xs : Shell) → list_any is_lost (flat_map popped_of xs) ≡ false → AreReleased xs → map (dismissed_among later) xs ≡ map (dismissed_among gone) xs
  same-all [] none released = refl
  same-all (x ∷ xs) none released =
      let one = done-role (λ i. is_among i gone && not (is_among i later)) x x.role (flat_map popped_of xs) none released.0 in
      ap₂ (λ (y : XdgSurface) (ys : Shell). y ∷ ys) (same-one x one.0) (same-all xs one.1 released.1)

  pub leaves : LeavesOthers has_grab shell p
  leaves = record {
    left =
        filter-same (is_left has_grab shell) (is_left has_grab new) (newest_first (popups_of new))
        (each-newest (λ r. is_left has_grab shell r ≡ is_left has_grab new r) [] (popups_of new) tt
        (each-map IsSettled (λ r. is_left has_grab shell r ≡ is_left has_grab new r)
        (λ r settled. same-left (is_among r.xdg.id gone) (is_among r.xdg.id later) r.popup.is_dismissed (fewer r.xdg.id) settled) (popups_of new) all-settled));
    rest = same-all new no-one-lost new-order.released ∙ absorbed id gone shell (and-left (is_among id gone) (not p.popup.is_dismissed) passes);
  }

pub grabbing_found : GrabbingFound
grabbing_found result book histories shell each agrees order newest =
    next-by has_grab shell book histories agrees order (λ id. reaches_grab 256 book id)
    (grabs-reached book histories shell each agrees order.younger (few-popups shell order))
    (leaves (kept_of book) histories shell agrees order) result newest
