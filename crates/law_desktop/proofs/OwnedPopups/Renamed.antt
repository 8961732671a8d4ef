-- Names of surfaces are nothing to popups that are dismissed: the same go, in the same order.
use Rattle.std.proofs.Common.{◌≡◌, ◌≤◌, ℕ, suc, List, [], ◌∷◌, Bool, true, false, cond, map, length, refl, ap, ap₂, subst, sym, ◌∙◌}
use Rattle.std.specs.Prelude.{◌==◌, ◌&&◌, ◌||◌, filter, fold, if◌then◌else◌, not}
use Rattle.std.specs.List.{list_any}
use Rattle.wl_shell.specs.Descent.{AreYounger, has_popup_at, is_of_xdg}
use Rattle.wl_shell.specs.InOrder.{AreReleased, AreRising, HasOrder, IsNextToGo, IsOnly, newest_first, undismissed, with_dismissed}
use Rattle.wl_shell.specs.Popups.{Popped, dismiss, dismissed_after, dismissed_among, dismissed_with, dismissing, is_among, is_parent_of, popup_changed, popups_of}
use Rattle.wl_shell.specs.Shell.{Shell, XdgSurface}
use Rattle.law_desktop.specs.NamedPopups.{renamed_popped, renamed_shell, renamed_xdg}
use Rattle.law_desktop.proofs.PopupsByNames.Popped.{popups-named}

module _ (f : ℕ → ℕ) where
  abbrev other : Popped → Popped
  other p = renamed_popped f p

  -- ---- lists

  pub any-renamed : (test : Popped → Bool) → ((p : Popped) → test (other p) ≡ test p) → (ps : List Popped) → list_any test (map other ps) ≡ list_any test ps
  any-renamed test same [] = refl
  any-renamed test same (p ∷ ps) = ap₂ (λ (a b : Bool). a || b) (same p) (any-renamed test same ps)

  filter-renamed : (test : Popped → Bool) → ((p : Popped) → test (other p) ≡ test p) → (ps : List Popped) → filter test (map other ps) ≡ map other (filter test ps)
  filter-renamed test same [] = refl
  filter-renamed test same (p ∷ ps) =
      ap (λ b. cond b (other p ∷ filter test (map other ps)) (filter test (map other ps))) (same p) ∙ at (test p) (filter-renamed test same ps)
    where
      at : (b : Bool) → filter test (map other ps) ≡ map other (filter test ps)
          → cond b (other p ∷ filter test (map other ps)) (filter test (map other ps)) ≡ map other (cond b (p ∷ filter test ps) (filter test ps))
      at true rest = ap (λ (qs : List Popped). other p ∷ qs) rest
      at false rest = rest

  newest-renamed : (acc ps : List Popped) → fold (λ (later : List Popped) p. p ∷ later) (map other acc) (map other ps) ≡ map other (fold (λ (later : List Popped) p. p ∷ later) acc ps)
  newest-renamed acc [] = refl
  newest-renamed acc (p ∷ ps) = newest-renamed (p ∷ acc) ps

  length-renamed : (xs : Shell) → length (map (renamed_xdg f) xs) ≡ length xs
  length-renamed [] = refl
  length-renamed (x ∷ xs) = ap suc (length-renamed xs)

  -- ---- those that go

  module _ (is : Popped → Bool) (same : (p : Popped) → is (other p) ≡ is p) where
    after-renamed : (ids : List ℕ) (ps : List Popped) → fold (dismissed_after is) ids (map other ps) ≡ fold (dismissed_after is) ids ps
    after-renamed ids [] = refl
    after-renamed ids (p ∷ ps) =
        ap (λ (b : Bool). fold (dismissed_after is) (if b || list_any (λ id. is_parent_of id p.popup) ids then p.xdg.id ∷ ids else ids) (map other ps)) (same p)
        ∙ after-renamed (dismissed_after is ids p) ps

    with-renamed : (shell : Shell) → dismissed_with is (renamed_shell f shell) ≡ dismissed_with is shell
    with-renamed shell = ap (λ (ps : List Popped). fold (dismissed_after is) [] ps) (popups-named f shell) ∙ after-renamed [] (popups_of shell)

    abbrev Falls : List ℕ → Popped → Bool
    Falls ids p = is_among p.xdg.id ids && not p.popup.is_dismissed

    pub undismissed-renamed : (shell : Shell) → undismissed is (renamed_shell f shell) ≡ map other (undismissed is shell)
    undismissed-renamed shell =
        ap₂ (λ (ids : List ℕ) (ps : List Popped). filter (Falls ids) (newest_first ps)) (with-renamed shell) (popups-named f shell)
        ∙ ap (λ (ps : List Popped). filter (Falls (dismissed_with is shell)) ps) (newest-renamed [] (popups_of shell))
        ∙ filter-renamed (Falls (dismissed_with is shell)) (λ p. refl) (newest_first (popups_of shell))

    one-dismissed : (ids : List ℕ) (x : XdgSurface) (b : Bool)
        → (if b then popup_changed dismiss (renamed_xdg f x) else renamed_xdg f x) ≡ renamed_xdg f (if b then popup_changed dismiss x else x)
    one-dismissed ids x true = refl
    one-dismissed ids x false = refl

    all-dismissed : (ids : List ℕ) (xs : Shell) → map (dismissed_among ids) (map (renamed_xdg f) xs) ≡ map (renamed_xdg f) (map (dismissed_among ids) xs)
    all-dismissed ids [] = refl
    all-dismissed ids (x ∷ xs) = ap₂ (λ (y : XdgSurface) (ys : Shell). y ∷ ys) (one-dismissed ids x (is_among x.id ids)) (all-dismissed ids xs)

    pub dismissing-renamed : (shell : Shell) → dismissing is (renamed_shell f shell) ≡ renamed_shell f (dismissing is shell)
    dismissing-renamed shell =
        ap (λ (ids : List ℕ). map (dismissed_among ids) (renamed_shell f shell)) (with-renamed shell) ∙ all-dismissed (dismissed_with is shell) shell

  -- one of them went
  one-gone : (x : XdgSurface) (b : Bool) → cond b (popup_changed dismiss (renamed_xdg f x)) (renamed_xdg f x) ≡ renamed_xdg f (cond b (popup_changed dismiss x) x)
  one-gone x true = refl
  one-gone x false = refl

  pub gone-renamed : (id : ℕ) (shell : Shell) → with_dismissed id (renamed_shell f shell) ≡ renamed_shell f (with_dismissed id shell)
  gone-renamed id [] = refl
  gone-renamed id (x ∷ xs) = ap₂ (λ (y : XdgSurface) (ys : Shell). y ∷ ys) (one-gone x (x.id == id)) (gone-renamed id xs)

  pub has-renamed : (xdg : ℕ) (shell : Shell) → has_popup_at xdg (renamed_shell f shell) ≡ has_popup_at xdg shell
  has-renamed xdg shell = ap (λ (ps : List Popped). list_any (is_of_xdg xdg) ps) (popups-named f shell) ∙ any-renamed (is_of_xdg xdg) (λ p. refl) (popups_of shell)

  -- ---- in order

  younger-renamed : (ps : List Popped) → AreYounger ps → AreYounger (map other ps)
  younger-renamed [] all = tt
  younger-renamed (p ∷ ps) all = (any-renamed (λ q. is_parent_of q.xdg.id p.popup) (λ q. refl) (p ∷ ps) ∙ all.0, younger-renamed ps all.1)

  rising-renamed : (ps : List Popped) → AreRising ps → AreRising (map other ps)
  rising-renamed [] all = tt
  rising-renamed (p ∷ ps) all = (
    λ number later. all.0 number (sym (any-renamed (λ q. q.popup.number == number) (λ q. refl) ps) ∙ later),
    rising-renamed ps all.1,
  )

  released-renamed : (xs : Shell) → AreReleased xs → AreReleased (map (renamed_xdg f) xs)
  released-renamed [] all = tt
  released-renamed (x ∷ xs) all = (all.0, released-renamed xs all.1)

  pub order-renamed : (shell : Shell) → HasOrder shell → HasOrder (renamed_shell f shell)
  order-renamed shell order = record {
    rising = subst (λ (ps : List Popped). AreRising ps) (sym (popups-named f shell)) (rising-renamed (popups_of shell) order.rising);
    younger = subst (λ (ps : List Popped). AreYounger ps) (sym (popups-named f shell)) (younger-renamed (popups_of shell) order.younger);
    released = released-renamed shell order.released;
    few = subst (λ (n : ℕ). n ≤ 256) (sym (length-renamed shell)) order.few;
  }

  -- the same one is next
  pub next-renamed : (is : Popped → Bool) → ((p : Popped) → is (other p) ≡ is p) → (shell : Shell) (surface name : ℕ) (p : Popped) → IsOnly (renamed_shell f shell) name (other p)
      → IsNextToGo is shell surface p → IsNextToGo is (renamed_shell f shell) name (other p)
  next-renamed is same shell surface name p only next = record {
    only = only;
    order = undismissed-renamed is same shell
        ∙ ap (λ (ps : List Popped). map other ps) next.order
        ∙ ap (λ (ps : List Popped). other p ∷ ps)
        (sym (ap (λ (s : Shell). undismissed is s) (gone-renamed p.xdg.id shell) ∙ undismissed-renamed is same (with_dismissed p.xdg.id shell)));
    rest = ap (λ (s : Shell). dismissing is s) (gone-renamed p.xdg.id shell)
        ∙ dismissing-renamed is same (with_dismissed p.xdg.id shell)
        ∙ ap (λ (s : Shell). renamed_shell f s) next.rest
        ∙ sym (dismissing-renamed is same shell);
    has_order = subst (λ (s : Shell). HasOrder s) (sym (gone-renamed p.xdg.id shell)) (order-renamed (with_dismissed p.xdg.id shell) next.has_order);
    popups = λ xdg. ap (λ (s : Shell). has_popup_at xdg s) (gone-renamed p.xdg.id shell)
        ∙ has-renamed xdg (with_dismissed p.xdg.id shell)
        ∙ next.popups xdg
        ∙ sym (has-renamed xdg shell);
  }
