-- Where each transform that was asked of a surface is one of the eight, so is the one that counts.
use Rattle.std.proofs.Common.{◌≡◌, ℕ, List, ◌∷◌, true, drop, fold, take, refl, ap, sym, ◌∙◌, take-append-drop, []}
use Rattle.std.specs.Prelude.{nat_lt}
use Rattle.std.specs.List.{list_all}
use Rattle.std.proofs.lemmas.Bool.{and_parts}
use Rattle.std.proofs.lemmas.List.Folds.{list_all-append}
use Rattle.wl_surface.specs.Request.{Request, SetBufferTransform}
use Rattle.wl_surface.specs.State.{History, Values, applied, asked, first_values}
use Rattle.law_desktop.specs.Standing.{turns_well}

-- ---- the transform that counts

taken-well : (n : ℕ) (requests : List Request) → list_all turns_well requests ≡ true → list_all turns_well (take n requests) ≡ true
taken-well n requests well =
    (and_parts (list_all turns_well (take n requests)) (list_all turns_well (drop n requests))
    (sym (list_all-append turns_well (take n requests) (drop n requests)) ∙ ap (list_all turns_well) (take-append-drop n requests) ∙ well)).0

asked-below : (v : Values) (request : Request) → nat_lt v.transform 8 ≡ true → turns_well request ≡ true → nat_lt (asked v request).transform 8 ≡ true
asked-below v (SetBufferTransform number) below well = well
asked-below v request below well = below

all-below : (v : Values) (requests : List Request) → nat_lt v.transform 8 ≡ true → list_all turns_well requests ≡ true → nat_lt (fold asked v requests).transform 8 ≡ true
all-below v [] below well = below
all-below v (request ∷ requests) below well =
    let w = and_parts (turns_well request) (list_all turns_well requests) well in
    all-below (asked v request) requests (asked-below v request below w.0) w.1

-- The transform that counts is one of the eight.
pub applied-turned : (h : History) → list_all turns_well h.requests ≡ true → nat_lt (applied h).transform 8 ≡ true
applied-turned h well = all-below first_values (take h.cut h.requests) refl (taken-well h.cut h.requests well)
