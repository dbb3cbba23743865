use Rattle.copy_requests.proofs.Deliveries.{delivers}
use Rattle.copy_requests.proofs.deliver.deliver_to.Goals as goal

pub returns : goal.returns
returns g c =
    let made = c.deliver.ensures in
    delivers c.args.copy.now c.deliver.new.self c.args.batch.now c.deliver.result c.end.ensures.is_content made.adds_batch made.accepts made.tells_repeats made.refuses made.unchanged_on_error
