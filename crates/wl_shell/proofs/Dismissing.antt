-- Popups that are dismissed one by one come to what the definition says.
use Rattle.std.proofs.Common.{◌≡◌, ℕ, List, [], ◌∷◌, ◌++◌, Bool, true, false, Option, Some, None, cond, map, refl, ap, sym, ◌∙◌}
use Rattle.std.specs.Prelude.{IfSome, if◌then◌else◌, fold, flat_map, nat_lt, ◌==◌, ◌||◌}
use Rattle.std.specs.List.{list_any}
use Rattle.std.specs.Option.{option_map, option_map_or}
use Rattle.std.proofs.lemmas.Bool.{eqb-true}
use Rattle.wl_shell.specs.Popups.{Popped, by_number, dismiss, dismissed_after, dismissed_among, dismissed_with, is_among, is_parent_of, kind_popup, popped_kind, popped_of, popped_role}
use Rattle.wl_shell.specs.Popups.{popup_changed, popup_in, popups_of, with_popup, with_popup_role}
use Rattle.wl_shell.specs.Shell.{IsPopup, Kind, Popup, RoleObject, Shell, Toplevel, XdgSurface}
use Rattle.wl_shell.specs.Dismissing.{AllDismissed, AreDone, DismissalsEnd, GoesByFamily, OneDismissed}

-- ---- popups of one family

abbrev pub AreAlike : Popped → Popped → Type 0
AreAlike p q = (p.xdg.id ≡ q.xdg.id) × (p.popup.parent ≡ q.popup.parent) × (p.popup.number ≡ q.popup.number)

abbrev pub EachAlike : List Popped → List Popped → Type 0
EachAlike [] [] = Unit {0}
EachAlike [] (q ∷ qs) = ⊥
EachAlike (p ∷ ps) [] = ⊥
EachAlike (p ∷ ps) (q ∷ qs) = AreAlike p q × EachAlike ps qs

alike-among : (p q : Popped) (ps qs : List Popped) → AreAlike p q → EachAlike ps qs → EachAlike (by_number p ps) (by_number q qs)
alike-among p q [] [] one all = (one, tt)
alike-among p q [] (r ∷ qs) one all = absurd all
alike-among p q (r ∷ ps) [] one all = absurd all
alike-among p q (r ∷ ps) (s ∷ qs) one all =
    at (nat_lt p.popup.number r.popup.number) (nat_lt q.popup.number s.popup.number)
    (ap (λ (n : ℕ). nat_lt n r.popup.number) one.2 ∙ ap (nat_lt q.popup.number) all.0.2) (alike-among p q ps qs one all.1)
  where
    at : (b c : Bool) → b ≡ c → EachAlike (by_number p ps) (by_number q qs) → EachAlike (if b then p ∷ r ∷ ps else r ∷ by_number p ps) (if c then q ∷ s ∷ qs else s ∷ by_number q qs)
    at true true same later = (one, all)
    at true false same later = absurd (cc)
    at false true same later = absurd (cc)
    at false false same later = (all.0, later)

alike-ordered : (before was ps qs : List Popped) → EachAlike before was → EachAlike ps qs → EachAlike (fold (λ rs p. by_number p rs) before ps) (fold (λ rs p. by_number p rs) was qs)
alike-ordered before was [] [] first all = first
alike-ordered before was [] (q ∷ qs) first all = absurd all
alike-ordered before was (p ∷ ps) [] first all = absurd all
alike-ordered before was (p ∷ ps) (q ∷ qs) first all = alike-ordered (by_number p before) (by_number q was) ps qs (alike-among p q before was all.0 first) all.1

-- the popups of an xdg_surface, before others
alike-before : (x y : XdgSurface) (o : Option RoleObject) (ps qs : List Popped) → x.id ≡ y.id → EachAlike ps qs → EachAlike (popped_role x o ++ ps) (popped_role y o ++ qs)
alike-before x y None ps qs same all = all
alike-before x y (Some object) ps qs same all = kind object.kind
  where
    kind : (k : Kind) → EachAlike (popped_kind x object k ++ ps) (popped_kind y object k ++ qs)
    kind Toplevel = all
    kind (IsPopup popup) = ((same, refl, refl), all)

-- its popup was dismissed
alike-gone : (x y : XdgSurface) (o : Option RoleObject) (ps qs : List Popped) → x.id ≡ y.id → EachAlike ps qs
    → EachAlike (popped_role x o ++ ps) (popped_role y (option_map (with_popup_role dismiss) o) ++ qs)
alike-gone x y None ps qs same all = all
alike-gone x y (Some object) ps qs same all = kind object.kind
  where
    kind : (k : Kind) → EachAlike (popped_kind x object k ++ ps) (popped_kind y (with_popup_role dismiss object) (with_popup dismiss k) ++ qs)
    kind Toplevel = all
    kind (IsPopup popup) = ((same, refl, refl), all)

module _ (id : ℕ) where
  abbrev pub gone_at : XdgSurface → XdgSurface
  gone_at x = cond (x.id == id) (popup_changed dismiss x) x

  alike-popped : (xs : Shell) → EachAlike (flat_map popped_of xs) (flat_map popped_of (map gone_at xs))
  alike-popped [] = tt
  alike-popped (x ∷ xs) = at (x.id == id) (alike-popped xs)
    where
      at : (b : Bool) → EachAlike (flat_map popped_of xs) (flat_map popped_of (map gone_at xs))
          → EachAlike (popped_of x ++ flat_map popped_of xs) (popped_of (cond b (popup_changed dismiss x) x) ++ flat_map popped_of (map gone_at xs))
      at true later = alike-gone x (popup_changed dismiss x) x.role (flat_map popped_of xs) (flat_map popped_of (map gone_at xs)) refl later
      at false later = alike-before x x x.role (flat_map popped_of xs) (flat_map popped_of (map gone_at xs)) refl later

  pub alike-popups : (shell : Shell) → EachAlike (popups_of shell) (popups_of (map gone_at shell))
  alike-popups shell = alike-ordered [] [] (flat_map popped_of shell) (flat_map popped_of (map gone_at shell)) tt (alike-popped shell)

-- ---- the same go

module _ (is : Popped → Bool) (family : GoesByFamily is) where
  alike-after : (p q : Popped) (ids : List ℕ) → AreAlike p q → dismissed_after is ids p ≡ dismissed_after is ids q
  alike-after p q ids alike =
      ap (λ (b : Bool). if b || list_any (λ id. is_parent_of id p.popup) ids then p.xdg.id ∷ ids else ids) (family p q alike.0 alike.1)
      ∙ ap (λ (o : Option ℕ). if is q || list_any (λ (id : ℕ). option_map_or (λ (parent : ℕ). parent == id) o false) ids then p.xdg.id ∷ ids else ids) alike.1
      ∙ ap (λ (i : ℕ). if is q || list_any (λ id. is_parent_of id q.popup) ids then i ∷ ids else ids) alike.0

  pub same-after : (ps qs : List Popped) (ids : List ℕ) → EachAlike ps qs → fold (dismissed_after is) ids ps ≡ fold (dismissed_after is) ids qs
  same-after [] [] ids all = refl
  same-after [] (q ∷ qs) ids all = absurd all
  same-after (p ∷ ps) [] ids all = absurd all
  same-after (p ∷ ps) (q ∷ qs) ids all =
      ap (λ (is' : List ℕ). fold (dismissed_after is) is' ps) (alike-after p q ids all.0) ∙ same-after ps qs (dismissed_after is ids q) all.1

-- ---- one by one

dismissed-twice : (x : XdgSurface) → popup_changed dismiss (popup_changed dismiss x) ≡ popup_changed dismiss x
dismissed-twice x = ap (λ (o : Option RoleObject). record x { role = o }) (role x.role)
  where
    kind : (k : Kind) → with_popup dismiss (with_popup dismiss k) ≡ with_popup dismiss k
    kind Toplevel = refl
    kind (IsPopup popup) = refl

    role : (o : Option RoleObject) → option_map (with_popup_role dismiss) (option_map (with_popup_role dismiss) o) ≡ option_map (with_popup_role dismiss) o
    role None = refl
    role (Some object) = ap (λ (k : Kind). Some (record object { kind = k })) (kind object.kind)

pub absorbed : (id : ℕ) (ids : List ℕ) (xs : Shell) → is_among id ids ≡ true → map (dismissed_among ids) (map (gone_at id) xs) ≡ map (dismissed_among ids) xs
absorbed id ids [] among = refl
absorbed id ids (x ∷ xs) among =
    ap (λ (y : XdgSurface). y ∷ map (dismissed_among ids) (map (gone_at id) xs)) (one (x.id == id) refl)
    ∙ ap (λ (ys : Shell). dismissed_among ids x ∷ ys) (absorbed id ids xs among)
  where
    goes : (x.id == id) ≡ true → is_among x.id ids ≡ true
    goes here = ap (λ (i : ℕ). is_among i ids) (eqb-true x.id id here) ∙ among

    one : (b : Bool) → (x.id == id) ≡ b → dismissed_among ids (cond b (popup_changed dismiss x) x) ≡ dismissed_among ids x
    one true here =
        ap (λ (b : Bool). if b then popup_changed dismiss (popup_changed dismiss x) else popup_changed dismiss x) (goes here)
        ∙ dismissed-twice x
        ∙ sym (ap (λ (b : Bool). if b then popup_changed dismiss x else x) (goes here))
    one false here = refl

one_dismissed : OneDismissed
one_dismissed is id shell family among =
    ap (λ (ids : List ℕ). map (dismissed_among ids) (map (gone_at id) shell)) (sym (same-after is family (popups_of shell) (popups_of (map (gone_at id) shell)) [] (alike-popups id shell)))
    ∙ absorbed id (dismissed_with is shell) shell among

-- ---- at the end

popup-done : (popup : Popup) → popup.is_dismissed ≡ true → popup.has_grab ≡ false → dismiss popup ≡ popup
popup-done popup gone free =
    ap (λ (b : Bool). record popup { is_dismissed = b; has_grab = false }) (sym gone) ∙ ap (λ (b : Bool). record popup { has_grab = b }) (sym free)

pub xdg-done : (x : XdgSurface) → IfSome (popup_in x.role) (λ popup. (popup.is_dismissed ≡ true) × (popup.has_grab ≡ false)) → popup_changed dismiss x ≡ x
xdg-done x done = ap (λ (o : Option RoleObject). record x { role = o }) (role x.role done)
  where
    kind : (k : Kind) → IfSome (kind_popup k) (λ popup. (popup.is_dismissed ≡ true) × (popup.has_grab ≡ false)) → with_popup dismiss k ≡ k
    kind Toplevel done = refl
    kind (IsPopup popup) done = ap IsPopup (popup-done popup done.0 done.1)

    role : (o : Option RoleObject) → IfSome (popup_in o) (λ popup. (popup.is_dismissed ≡ true) × (popup.has_grab ≡ false)) → option_map (with_popup_role dismiss) o ≡ o
    role None done = refl
    role (Some object) done = ap (λ (k : Kind). Some (record object { kind = k })) (kind object.kind done)

none-changed : (ids : List ℕ) (xs : Shell) → AreDone ids xs → map (dismissed_among ids) xs ≡ xs
none-changed ids [] done = refl
none-changed ids (x ∷ xs) done = ap (λ (y : XdgSurface). y ∷ map (dismissed_among ids) xs) (one (is_among x.id ids) done.0) ∙ ap (λ (ys : Shell). x ∷ ys) (none-changed ids xs done.1)
  where
    one : (b : Bool) → (b ≡ true → IfSome (popup_in x.role) (λ popup. (popup.is_dismissed ≡ true) × (popup.has_grab ≡ false))) → (if b then popup_changed dismiss x else x) ≡ x
    one true done = xdg-done x (done refl)
    one false done = refl

all_dismissed : AllDismissed
all_dismissed is shell done = none-changed (dismissed_with is shell) shell done

pub dismissals_end : DismissalsEnd
dismissals_end = record { one = one_dismissed; all = all_dismissed }
