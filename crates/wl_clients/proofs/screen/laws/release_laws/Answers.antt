use Rattle.wl_clients.proofs.screen.laws.release_laws.Goals as goal

pub returns : goal.returns
returns c = record {
  windows = c.dismissed_windows_go.ensures;
  shown = c.dismissed_stays_shown.ensures;
  marks = c.dismissal_marks.ensures;
  order = c.ordered_has_order.ensures;
}
