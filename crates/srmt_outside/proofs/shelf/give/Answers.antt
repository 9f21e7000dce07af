use Rattle.std.proofs.Common.{string_bytes, ◌∙◌, ap}
use Rattle.std.proofs.lemmas.Map.Text.{btree_map_updates_text}
use Rattle.srmt_outside.specs.Shelf.{shelf_of, with_file}
use Rattle.srmt_outside.proofs.Shelves.{shelf_of-update}
use Rattle.srmt_outside.proofs.shelf.give.Goals as goal

pub returns-clause-ok : goal.returns-clause-ok
returns-clause-ok c =
    shelf_of-update c.args.files.now c.insert.new.self (string_bytes c.in_ok-name.name) c.in_ok-bytes.bytes
    (btree_map_updates_text (string_bytes c.in_ok-name.name) c.args.files.now c.insert.new.self _ c.in_ok-insert.ensures.updates)
    ∙ ap (λ name. with_file (shelf_of c.args.files.now) name c.in_ok-bytes.bytes.items) c.in_ok-name.ensures.ok
    ∙ ap (with_file (shelf_of c.args.files.now) c.args.name.now) c.in_ok-bytes.ensures.items
