use Rattle.std.proofs.Common.{◌≡◌, None, map, take}
use Rattle.std.specs.Prelude.{find}
use Rattle.spec_desktop.specs.Objects.{is_bound}
use Rattle.wl_client.specs.Said.{global_of}
use Rattle.wl_client.proofs.globals.interface_bound.Given as goal

-- none of the globals before is the one
abbrev pub invariant-loop-global : goal.invariant-loop-global
invariant-loop-global l = find (is_bound l.name l.text l.version) (map global_of (take l.global-index l.global-items)) ≡ None
