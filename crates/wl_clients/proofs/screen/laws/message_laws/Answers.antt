use Rattle.wl_clients.proofs.screen.laws.message_laws.Goals as goal

pub returns : goal.returns
returns c = record {
  lead = c.messages_lead_so.ensures;
  ended = c.ended_is_gone.ensures;
  windows = c.gone_windows.ensures;
  least = c.gone_marks_least.ensures;
  most = c.gone_marks_most.ensures;
  twice = c.twice_marks.ensures;
  struck = c.struck_marks.ensures;
  between = c.marks_by_trees_between.ensures;
  order = c.ordered_has_order.ensures;
  demands = c.demands_keep_ordered.ensures;
  messages = c.messages_keep_ordered.ensures;
  rising = c.rising_named.ensures;
}
