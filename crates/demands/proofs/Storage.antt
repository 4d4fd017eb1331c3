-- Demand 2 as those put it who write and read: the laws of blocks, gathered.
-- Assumes nothing.
use Rattle.demands.specs.Demands.{Storage}
use Rattle.demands.proofs.Transfers.{write_then_read, write_keeps_others, fresh_reads_zeros}
use Rattle.demands.proofs.Unmaps.{unmap_contents}
use Rattle.demands.proofs.Slots.{same_answers}
use Rattle.demands.proofs.Widths.{same_transfer}
use Rattle.demands.proofs.Checking.{clash_eleven, usable_checked}

pub storage : Storage
storage = record {
  write_then_read = write_then_read;
  write_keeps_others = write_keeps_others;
  unmap_contents = unmap_contents;
  fresh_reads_zeros = fresh_reads_zeros;
  slots_hidden = same_answers;
  forms_agree = same_transfer;
  clash_refused = clash_eleven;
  usable_checked = usable_checked;
}
