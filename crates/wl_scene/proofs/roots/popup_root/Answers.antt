use Rattle.std.proofs.Common.{◌≡◌, [], ◌∷◌, Some, None, ap, map, subst, sym, ◌∙◌}
use Rattle.std.specs.Prelude.{find}
use Rattle.wl_scene.specs.declared.roots.RootPlace.{RootPlace}
use Rattle.wl_scene.specs.Roots.{is_root_of, parent_surface, told_root}
use Rattle.wl_scene.proofs.Rooted.{IsFoundBy, found-parent}
use Rattle.wl_scene.proofs.roots.popup_root.Goals as goal
use Rattle.wl_surface.specs.Surfaces.{history_in}

pub returns-in-None : goal.returns-in-None
returns-in-None g c = λ o p rs held is at same.
    let found : find (is_root_of p.parent) (map told_root rs) ≡ None =
    ap (λ s. find (is_root_of s) (map told_root rs)) is.parent ∙ ap (find (is_root_of (parent_surface o c.args.popup.now))) (sym same)
    ∙ sym (c.in-None.ensures o (λ number. history_in number o.surfaces) held.shell) in
    let none : IsFoundBy o.surfaces p c.args.owned.now.shell rs None =
    subst (IsFoundBy o.surfaces p c.args.owned.now.shell rs) found (found-parent o.surfaces p c.args.owned.now.shell is.is_mapped rs at) in
    sym (ap (map told_root) none)

pub returns-in-Some : goal.returns-in-Some
returns-in-Some g c = λ o p rs held is at same.
    let found : find (is_root_of p.parent) (map told_root rs) ≡ Some c.in-Some.parent.now =
    ap (λ s. find (is_root_of s) (map told_root rs)) is.parent ∙ ap (find (is_root_of (parent_surface o c.args.popup.now))) (sym same)
    ∙ sym (c.in-Some.ensures o (λ number. history_in number o.surfaces) held.shell) in
    let r : IsFoundBy o.surfaces p c.args.owned.now.shell rs (Some c.in-Some.parent.now) =
    subst (IsFoundBy o.surfaces p c.args.owned.now.shell rs) found (found-parent o.surfaces p c.args.owned.now.shell is.is_mapped rs at) in
    ap (λ (q : RootPlace). q ∷ []) (c.root_on.ensures o p r.0 held is.of_surface is.placement is.geometry r.1.told r.1.geometry) ∙ sym (ap (map told_root) r.1.stacked)
