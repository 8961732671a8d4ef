-- Worked recordings: which points are marked where damage is held and applied, and how much damage counts, computed on the definitions.
use Rattle.std.proofs.Common.{◌≡◌, ℕ, true, false, refl}
use Rattle.std.specs.Prelude.{pos, replicate}
use Rattle.wl_geom.specs.declared.rect.Rect.{Rect}
use Rattle.wl_surface.specs.Request.{Damage}
use Rattle.wl_surface.specs.State.{is_damaged}
use Rattle.wl_surface.specs.Trees.{applied_tree, behaves_synchronised, depth, descends_from, height}
use Rattle.spec_desktop.specs.Windows.{tree}
use Rattle.spec_desktop.specs.Desktop.{Desktop}
use Rattle.test_definitions.proofs.Counts.{marks}
use Rattle.test_definitions.proofs.Steps.{asked_more, commit, damage, sent}
use Rattle.test_definitions.proofs.Subsurfaces.{applied, first, second, third}

-- what a synchronised subsurface commits marks nothing
pub row_held : marks first second 4 4 ≡ false
unfolding tree applied_tree behaves_synchronised depth descends_from height
row_held = refl

-- as its parent commits, the damage of both held commits is applied, and nothing else
pub row_both-first : marks (sent 1 third) applied 4 4 ≡ true
unfolding tree applied_tree behaves_synchronised depth descends_from height
row_both-first = refl

pub row_both-second : marks (sent 1 third) applied 7 7 ≡ true
unfolding tree applied_tree behaves_synchronised depth descends_from height
row_both-second = refl

pub row_both-between : marks (sent 1 third) applied 5 5 ≡ false
unfolding tree applied_tree behaves_synchronised depth descends_from height
row_both-between = refl

pub row_both-beside : marks (sent 1 third) applied 0 0 ≡ false
unfolding tree applied_tree behaves_synchronised depth descends_from height
row_both-beside = refl

-- ---- 1,024 rectangles count, and one more damages everything

abbrev dot : Rect
dot = record { x = pos 0; y = pos 0; w = pos 1; h = pos 1 }

pub row_many : is_damaged 40 40 (replicate 1024 dot) 0 0 ≡ true
row_many = refl

pub row_many-beside : is_damaged 40 40 (replicate 1024 dot) 1 0 ≡ false
row_many-beside = refl

pub row_more : is_damaged 40 40 (replicate 1025 dot) 39 39 ≡ true
row_more = refl

pub row_more-outside : is_damaged 40 40 (replicate 1025 dot) 40 40 ≡ false
row_more-outside = refl

-- the same of damage that is held by two commits: a surface's list as so many requests leave it, a commit, one more, and a commit
abbrev held : ℕ → Desktop
held n = commit 1 14 (damage 1 14 (pos 0) (pos 0) (pos 1) (pos 1) (commit 1 14 (asked_more (replicate n (Damage dot)) 14 first)))

pub row_held-many : marks (held 1023) (commit 1 6 (held 1023)) 4 4 ≡ true
unfolding tree applied_tree behaves_synchronised depth descends_from height
row_held-many = refl

pub row_held-many-beside : marks (held 1023) (commit 1 6 (held 1023)) 7 7 ≡ false
unfolding tree applied_tree behaves_synchronised depth descends_from height
row_held-many-beside = refl

pub row_held-more : marks (held 1024) (commit 1 6 (held 1024)) 7 7 ≡ true
unfolding tree applied_tree behaves_synchronised depth descends_from height
row_held-more = refl

pub row_held-more-outside : marks (held 1024) (commit 1 6 (held 1024)) 8 8 ≡ false
unfolding tree applied_tree behaves_synchronised depth descends_from height
row_held-more-outside = refl
