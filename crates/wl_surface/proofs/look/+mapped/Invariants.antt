use Rattle.wl_surface.proofs.look.+mapped.Given as goal

abbrev pub decreases-is_mapped : goal.decreases-is_mapped
decreases-is_mapped g l = l.levels
