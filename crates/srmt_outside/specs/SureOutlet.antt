-- The counts of an outlet that keeps no event.
use Rattle.srmt_base.specs.declared.event.Event.{Event}
use Rattle.srmt_base.specs.declared.event.Event.TheVariants.{Byte, PortRead, PortWrite, Exit}
use Rattle.srmt_outside.specs.Count.{next_count}
use Rattle.srmt_outside.specs.declared.sure_outlet.SureOutlet.{SureOutlet}

-- the counts after an event: one more of its kind
abbrev pub counts_with : SureOutlet → Event → SureOutlet
counts_with counts (Byte _) = record counts { bytes = next_count counts.bytes }
counts_with counts (PortRead _ _) = record counts { port_reads = next_count counts.port_reads }
counts_with counts (PortWrite _ _ _) = record counts { port_writes = next_count counts.port_writes }
counts_with counts (Exit _) = record counts { exits = next_count counts.exits }
