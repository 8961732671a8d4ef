use Rattle.std.proofs.Common.{refl, ◌∙◌}
use Rattle.wl_requests.specs.Touching.{Parts, Releases}
use Rattle.wl_requests.proofs.residents.Resident.wl_subsurface.Goals.{
  in-Destroy,
  in-SetPosition,
  in-PlaceAbove+in-Some,
  in-PlaceAbove+in_default,
  in-PlaceBelow+in-Some-surface_of,
  in-PlaceBelow+in_default-surface_of,
  in-SetSync,
  in-SetDesync,
}
use Rattle.wl_requests.proofs.residents.Resident.wl_subsurface.Goals as goal

pub returns-clause-nothing : goal.returns-clause-nothing
returns-clause-nothing g c = elim c.match-request.branch [
  | in-Destroy w ↦ λ target none numbers ss are.
      w.applied-is ∙ w.destroy_subsurface-applied.ensures.nothing (λ child only. none (Parts child) (rw w.in-Destroy.is (child, only, refl))) numbers ss are
  | in-SetPosition w ↦ λ target none numbers ss are. w.applied-is
  | in-PlaceAbove+in-Some w ↦ λ target none numbers ss are. w.applied-is
  | in-PlaceAbove+in_default w ↦ λ target none numbers ss are. w.applied-is
  | in-PlaceBelow+in-Some-surface_of w ↦ λ target none numbers ss are. w.applied-is
  | in-PlaceBelow+in_default-surface_of w ↦ λ target none numbers ss are. w.applied-is
  | in-SetSync w ↦ λ target none numbers ss are. w.applied-is
  | in-SetDesync w ↦ λ target none numbers ss are.
      w.applied-is ∙ w.set_desync-applied.ensures.nothing (λ child only. none (Releases child) (rw w.in-SetDesync.is (child, only, refl))) numbers ss are
]

pub returns-clause-decides : goal.returns-clause-decides
returns-clause-decides g c = elim c.match-request.branch [
  | in-Destroy w ↦ λ version target touch touches here.
      let of = rw w.in-Destroy.is at touches in
      rw (w.applied-is, w.self-is, w.in-Destroy.is) (w.destroy_subsurface-applied.ensures.decides of.0 of.1 here)
  | in-SetPosition w ↦ λ version target touch touches here. absurd (rw w.in-SetPosition.is at touches)
  | in-PlaceAbove+in-Some w ↦ λ version target touch touches here. absurd (rw w.in-PlaceAbove.is at touches)
  | in-PlaceAbove+in_default w ↦ λ version target touch touches here. absurd (rw w.in-PlaceAbove.is at touches)
  | in-PlaceBelow+in-Some-surface_of w ↦ λ version target touch touches here. absurd (rw w.in-PlaceBelow.is at touches)
  | in-PlaceBelow+in_default-surface_of w ↦ λ version target touch touches here. absurd (rw w.in-PlaceBelow.is at touches)
  | in-SetSync w ↦ λ version target touch touches here. absurd (rw w.in-SetSync.is at touches)
  | in-SetDesync w ↦ λ version target touch touches here.
      let of = rw w.in-SetDesync.is at touches in
      rw (w.applied-is, w.self-is, w.in-SetDesync.is) (w.set_desync-applied.ensures.decides of.0 of.1 here)
]

-- ---- what is kept stands by the numbers from before

pub returns-clause-holds : goal.returns-clause-holds
returns-clause-holds g c = elim c.match-request.branch [
  | in-Destroy w ↦ λ version target touch touches here.
      let of = rw w.in-Destroy.is at touches in
      rw (w.applied-is, w.self-is, w.in-Destroy.is) (w.destroy_subsurface-applied.ensures.holds of.0 of.1 here)
  | in-SetPosition w ↦ λ version target touch touches here. absurd (rw w.in-SetPosition.is at touches)
  | in-PlaceAbove+in-Some w ↦ λ version target touch touches here. absurd (rw w.in-PlaceAbove.is at touches)
  | in-PlaceAbove+in_default w ↦ λ version target touch touches here. absurd (rw w.in-PlaceAbove.is at touches)
  | in-PlaceBelow+in-Some-surface_of w ↦ λ version target touch touches here. absurd (rw w.in-PlaceBelow.is at touches)
  | in-PlaceBelow+in_default-surface_of w ↦ λ version target touch touches here. absurd (rw w.in-PlaceBelow.is at touches)
  | in-SetSync w ↦ λ version target touch touches here. absurd (rw w.in-SetSync.is at touches)
  | in-SetDesync w ↦ λ version target touch touches here.
      let of = rw w.in-SetDesync.is at touches in
      rw (w.applied-is, w.self-is, w.in-SetDesync.is) (w.set_desync-applied.ensures.holds of.0 of.1 here)
]
