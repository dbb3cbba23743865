-- What crates above this one name of those below it, so that these needn't be listed beside it.
pub use Rattle.broker_node.specs.Answers.{RespondsTo}
pub use Rattle.broker_node.specs.declared.handling.Answer.{Answer}
pub use Rattle.broker_node.specs.Handling.{Handles}
pub use Rattle.broker_node.specs.Replies.{IsReply}
pub use Rattle.broker_node.specs.Streams.{IsAnswered, AreAnswered, Answered, RefusesNext}
