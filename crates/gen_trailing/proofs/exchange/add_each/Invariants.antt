use Rattle.std.proofs.Common.{◌≡◌, ◌+◌, ◌++◌, map, drop}
use Rattle.mid_code.specs.declared.version.VersionOp.TheVariants.{Check}
use Rattle.mid_code.specs.Versions.{with_line}
use Rattle.gen_trailing.proofs.exchange.add_each.Given as goal

-- the comparisons so far, and those that are left, are all
abbrev pub invariant-loop-source : goal.invariant-loop-source
invariant-loop-source l = record {
  all : l.lines.code ++ with_line l.line (map (Check l.site) (drop l.source-index l.sources)) ≡ l.fn.lines.code ++ with_line l.line (map (Check l.site) l.sources);
  room : l.lines.room + l.source-index ≡ l.fn.lines.room;
}
