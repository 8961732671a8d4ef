-- Popups are dismissed one after another, and what is kept stands for what is left.
use Rattle.std.proofs.Common.{◌≡◌, ℕ, List, [], ◌∷◌, ◌++◌, Bool, true, false, Option, map, refl, ap, subst, sym, ◌∙◌}
use Rattle.std.proofs.lemmas.Option.{same_Some}
use Rattle.wl_shell.specs.InOrder.{IsNextToGo, goes_with, undismissed, with_dismissed}
use Rattle.wl_shell.specs.Kept.{Kept, changing, kept_changed}
use Rattle.wl_shell.specs.Popups.{Popped, dismiss, popup_changed}
use Rattle.wl_shell.specs.Shell.{Shell}
use Rattle.wl_shell.proofs.Standing.{changes_stand}
use Rattle.spec_desktop.specs.Changing.{grabbed}
use Rattle.law_desktop.specs.Owning.{IsOwned}
use Rattle.law_desktop.specs.OwnedPopups.{DismissalsGoOn, EndDismisses, GrabDismisses, PopupDismissed, PopupsAreDismissed, WereDismissed, done_told, grab_done}
use Rattle.law_desktop.proofs.Keeping.OwningXdg.{xdg-found}
use Rattle.law_desktop.proofs.OwnedPopups.Done.{end-tells, grab-tells}
use Rattle.law_desktop.proofs.OwnedPopups.Finding.{next-dismissed}
use Rattle.law_desktop.proofs.OwnedPopups.Stepping.{popup-keeps, shell-stepped}
use Rattle.law_desktop.proofs.KeptRecords.Keeping.OwningXdg.{has_surface}

popup-dismissed : PopupDismissed
popup-dismissed names slots tied kept o gone p after is only named keeps =
    let t = xdg-found names slots tied kept o is (has_surface p.xdg.surface) p.xdg only.found in
    let same : t.0 ≡ gone = same_Some t.0 gone (sym t.3.surface ∙ named) in
    subst (λ (ks : ℕ → Option Kept). IsOwned names slots tied ks (record o { shell = with_dismissed p.xdg.id o.shell })) (sym keeps)
    (subst (λ n. IsOwned names slots tied (changing n (kept_changed dismiss) kept) (record o { shell = with_dismissed p.xdg.id o.shell })) same
    (shell-stepped names slots tied kept o is t.0 t.1 p.xdg t.2 t.3 (kept_changed dismiss) (popup_changed dismiss) (popup-keeps dismiss)
    (changes_stand.changed dismiss t.1 p.xdg t.2 t.3.stands)))

joined : (gone : List Popped) (p : Popped) (rest : List Popped) → gone ++ p ∷ rest ≡ (gone ++ p ∷ []) ++ rest
joined [] p rest = refl
joined (q ∷ gone) p rest = ap (λ (qs : List Popped). q ∷ qs) (joined gone p rest)

none-left : (gone : List Popped) → gone ++ [] ≡ gone
none-left [] = refl
none-left (q ∷ gone) = ap (λ (qs : List Popped). q ∷ qs) (none-left gone)

next-gone : (is : Popped → Bool) (shell left : Shell) (gone : List Popped) (surface : ℕ) (p : Popped) → WereDismissed is shell gone left → IsNextToGo is left surface p
    → WereDismissed is shell (gone ++ p ∷ []) (with_dismissed p.xdg.id left)
next-gone is shell left gone surface p were next = record {
  order = were.order ∙ ap (λ (qs : List Popped). gone ++ qs) next.order ∙ joined gone p (undismissed is (with_dismissed p.xdg.id left));
  rest = next.rest ∙ were.rest;
  has_order = next.has_order;
  popups = λ xdg. next.popups xdg ∙ were.popups xdg;
}

on : DismissalsGoOn
on = record {
  begin = λ is shell order. record { order = refl; rest = refl; has_order = order; popups = λ xdg. refl };
  next = next-gone;
  end = λ is shell left gone were none all. (were.order ∙ ap (λ (qs : List Popped). gone ++ qs) none ∙ none-left gone, sym were.rest ∙ all);
}

grab-dismisses : GrabDismisses
grab-dismisses names slots tied kept r c xdg serial d gone left is refused were none all =
    let both = on.end (goes_with true xdg) r.owned.shell left gone were none all in (
      ap (λ (b : Bool). (grabbed b xdg r).owned) refused ∙ ap (λ (s : Shell). record r.owned { shell = s }) both.1,
      grab-tells names slots tied kept r c xdg serial d is
          ∙ ap (λ (b : Bool). grab_done b xdg r.owned.shell) refused
          ∙ ap (λ (ps : List Popped). map done_told ps) both.0,
    )

end-dismisses : EndDismisses
end-dismisses names slots tied kept r c id xdg surface d gone left is top were none all =
    let both = on.end (goes_with false xdg) r.owned.shell left gone were none all in
    (both.1, end-tells names slots tied kept r c id xdg surface d is top ∙ ap (λ (ps : List Popped). map done_told ps) both.0)

pub popups-dismissed : PopupsAreDismissed
popups-dismissed = record {
  next = next-dismissed;
  dismissed = popup-dismissed;
  on = on;
  grab = grab-tells;
  end = end-tells;
  grab_dismisses = grab-dismisses;
  end_dismisses = end-dismisses;
}
