-- What crates above this one name of those below it, so that these needn't be listed beside it.
pub use Rattle.broker_node.proofs.PlannedReplies.{one_reply}
