use Rattle.std.proofs.Common.{List, [], ◌∷◌, ◌++◌, ◌∙◌}
use Rattle.std.proofs.lemmas.Result.{err_from_is_err_and}
use Rattle.srmtrun.specs.Reading.{command_of}
use Rattle.srmtrun.specs.Reads.{file_named, files_named}
use Rattle.srmtrun.proofs.Asking.{faults_first, faults_behind, faults_there, reads_there}
use Rattle.srmtrun.proofs.sources.load_sources.Goals as goal

pub returns-in_err-main-clause-asks : goal.returns-in_err-main-clause-asks
returns-in_err-main-clause-asks g c =
    let p = err_from_is_err_and c.from_residual.result c.from_residual.ensures.1 in
    let k = command_of c.args.command in
    rw (p.1, p.2) (faults_first (g.F.Files.contents c.args.files.now) (Unit {0}) (Unit {0}) _ _ _ (file_named 1048576 k.program ∷ []) (files_named 1048576 k.binary ++ files_named 16777216 k.input) c.in_err-main.ensures.asks)

pub returns-in_err-binary-clause-asks : goal.returns-in_err-binary-clause-asks
returns-in_err-binary-clause-asks g c =
    let p = err_from_is_err_and c.from_residual-in_err-binary.result c.from_residual-in_err-binary.ensures.1 in
    let k = command_of c.args.command in
    let contents = g.F.Files.contents c.args.files.now in
    let here = faults_there contents (Unit {0}) _ (g.F.Files.contents c.load.new.files) c.load.ensures.contents _ _ (files_named 1048576 k.binary) c.in_err-binary.ensures.asks in
    rw (p.1, p.2) (faults_behind contents (Unit {0}) (Unit {0}) _ _ (g.F.Files.asked c.load.new.files) _ (file_named 1048576 k.program ∷ []) (files_named 1048576 k.binary ++ files_named 16777216 k.input) c.in_ok-main.ensures.asks
    (faults_first contents (Unit {0}) (Unit {0}) _ _ _ (files_named 1048576 k.binary) (files_named 16777216 k.input) here))

pub returns-in_err-input-clause-asks : goal.returns-in_err-input-clause-asks
returns-in_err-input-clause-asks g c =
    let p = err_from_is_err_and c.from_residual-in_err-input.result c.from_residual-in_err-input.ensures.1 in
    let k = command_of c.args.command in
    let contents = g.F.Files.contents c.args.files.now in
    let here = faults_there contents (Unit {0}) _ (g.F.Files.contents c.load_binary.new.files) (c.load_binary.ensures.contents ∙ c.load.ensures.contents) _ _ (files_named 16777216 k.input) c.in_err-input.ensures.asks in
    let read = reads_there contents (g.F.Files.contents c.load.new.files) c.load.ensures.contents _ _ (files_named 1048576 k.binary) c.in_ok-binary.ensures.asks in
    rw (p.1, p.2) (faults_behind contents (Unit {0}) (Unit {0}) _ _ (g.F.Files.asked c.load.new.files) _ (file_named 1048576 k.program ∷ []) (files_named 1048576 k.binary ++ files_named 16777216 k.input) c.in_ok-main.ensures.asks
    (faults_behind contents (Unit {0}) (Unit {0}) _ _ (g.F.Files.asked c.load_binary.new.files) _ (files_named 1048576 k.binary) (files_named 16777216 k.input) read here))
