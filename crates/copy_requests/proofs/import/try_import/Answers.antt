use Rattle.std.proofs.Common.{Ok, subst}
use Rattle.std.specs.Int.{w32}
use Rattle.std.proofs.lemmas.Int.{to_z-of_z}
use Rattle.copy_requests.specs.Import.Images.{IsPlaceToImport}
use Rattle.copy_requests.proofs.Entries.{import_done, import_unread}
use Rattle.copy_requests.proofs.import.try_import.Goals as goal

pub returns-in-Ok-read_copy : goal.returns-in-Ok-read_copy
returns-in-Ok-read_copy g c =
    let place = subst (λ p. IsPlaceToImport c.args.state.now c.args.topic.now p (Ok c.in-Ok.place)) (to_z-of_z w32 c.args.partition c.ranges.partition) c.in-Ok.ensures in
    import_done c.args.state.now (record { topic = c.args.topic.now; partition = c.args.partition; image = c.args.image.now }) c.in-Ok-read_copy.copy c.change_at.new.self c.change_at.result place.1 c.in-Ok-read_copy.ensures
    (c.change_at.ensures c.args.topic.now c.args.partition place.0)

pub returns-in-Err-read_copy : goal.returns-in-Err-read_copy
returns-in-Err-read_copy g c =
    let place = subst (λ p. IsPlaceToImport c.args.state.now c.args.topic.now p (Ok c.in-Ok.place)) (to_z-of_z w32 c.args.partition c.ranges.partition) c.in-Ok.ensures in
    import_unread c.args.state.now (record { topic = c.args.topic.now; partition = c.args.partition; image = c.args.image.now }) c.in-Err-read_copy.fault place.1 c.in-Err-read_copy.ensures
