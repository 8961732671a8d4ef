-- A mode keeps the surfaces that don't descend from the child.
use Rattle.std.proofs.Common.{◌≡◌, ℕ, ◌==◌, ◌||◌, Bool, true, false, cond, Option, Some, None, refl, ap, sym, subst, ◌∙◌}
use Rattle.std.specs.Prelude.{not}
use Rattle.std.specs.Option.{option_map}
use Rattle.wl_surface.specs.Surfaces.{Link, Surfaces, link_at}
use Rattle.wl_surface.specs.Trees.{behaves_synchronised, in_mode, levels, released_in, with_link}
use Rattle.wl_surface.specs.Hanging.{kid_of, kids_of}
use Rattle.wl_surface.proofs.Changing.{KeepsLink, at-each, keeps-where}
use Rattle.law_desktop.specs.TreeStepsLaws.{KeepsOthers}
use Rattle.law_desktop.specs.TreeRequests.{ModeKeepsAll, ModeKeepsOthers}
use Rattle.law_desktop.proofs.TreeSteps.Commits.{unless-keeps}
use Rattle.law_desktop.proofs.TreeSteps.Fewer.{had-parents, once-kept}

abbrev pub in_mode_at : Bool → ℕ → Link → Link
in_mode_at synchronised number l = cond (l.number == number) (in_mode synchronised l) l

keeps-mode : (synchronised : Bool) (number : ℕ) → KeepsLink (in_mode_at synchronised number)
keeps-mode synchronised number =
    keeps-where (λ l. l.number == number) (in_mode synchronised) (record { number = λ l. refl; child = λ l. refl; parent = λ l. refl; ended = λ l e. e })

kid-mode : (synchronised : Bool) (number : ℕ) (o : Option Link) → kid_of (option_map (in_mode_at synchronised number) o) ≡ kid_of o
kid-mode synchronised number None = refl
kid-mode synchronised number (Some l) = at (l.number == number)
  where
    at : (b : Bool) → kid_of (Some (cond b (in_mode synchronised l) l)) ≡ kid_of (Some l)
    at true = refl
    at false = refl

pub kids-mode : (synchronised : Bool) (number n : ℕ) (all : Surfaces) → kids_of (with_link number (in_mode synchronised) all) n ≡ kids_of all n
kids-mode synchronised number n all =
    ap kid_of (at-each (in_mode_at synchronised number) (keeps-mode synchronised number) n all.links) ∙ kid-mode synchronised number (link_at n all)

pub mode-keeps-all : ModeKeepsAll
mode-keeps-all all number synchronised = record { counts = λ s. refl; cuts = λ s. refl; kids = λ n named. kids-mode synchronised number n all }

pub mode-keeps-others : ModeKeepsOthers
mode-keeps-others all once number link e =
    let new = with_link number (in_mode false) all in
    subst (λ (o : Option Link). KeepsOthers link.child all (released_in o all new)) (sym e)
    (unless-keeps (not (behaves_synchronised levels all link.child) || behaves_synchronised levels new link.child) link.child all new
    (once-kept (in_mode_at false number) (keeps-mode false number) all.links once) (had-parents (in_mode_at false number) (keeps-mode false number) all once)
    (record {
      histories = λ s none. refl;
      kids = λ n child named is none. kids-mode false number n all ∙ is;
      gone = λ n named is. kids-mode false number n all ∙ is;
    }))
