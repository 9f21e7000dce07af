use Rattle.srmt_outside.proofs.mem_files.MemFilesFiles.read.Goals as goal

pub returns-clause-failed : goal.returns-clause-failed
returns-clause-failed c =
    rw (← c.self.view_is, ← c.deref.ensures.value, ← c.saturating_add-self-inside.ensures)
    c.read_held-answer.ensures.failed
