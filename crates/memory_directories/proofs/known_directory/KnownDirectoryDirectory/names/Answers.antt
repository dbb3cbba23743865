use Rattle.std.proofs.Common.{ap, ◌∙◌, rules}
use Rattle.std.proofs.lemmas.List.{take_all}
use Rattle.std.proofs.lemmas.Option.{same_Some}
use Rattle.memory_directories.specs.KnownNames.{is_there_by}
use Rattle.memory_directories.proofs.KnownNames.{list_more}
use Rattle.memory_directories.proofs.known_directory.KnownDirectoryDirectory.names.Goals as goal

pub loop-change-preserved : goal.loop-change-preserved
loop-change-preserved g c =
    list_more (λ change. change.gone) (λ change. change.named) c.args.self.now.changes.items c.loop-change.change-index c.change-item.result c.loop-change.names.items c.list.new.names.items
    (search rules) (search rules) c.loop-change.invariant c.in_ok-list.ensures.keeps c.in_ok-list.ensures.lists

pub returns : goal.returns
returns g c = λ name there.
    let changes = c.args.self.now.changes.items in
    let is = same_Some _ _ there in
    c.loop-change.invariant name is
    (ap (λ l. is_there_by l (λ change. change.gone) (λ change. change.named) name) (take_all c.loop-change.change-index changes (search rules)) ∙ is)
