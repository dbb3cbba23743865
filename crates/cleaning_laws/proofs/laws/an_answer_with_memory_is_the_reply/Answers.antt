use Rattle.cleaning_laws.proofs.WithMemory.{full_reply, full_handled}
use Rattle.cleaning_laws.proofs.FramesAlike.{full_replies, full_answered}
use Rattle.cleaning_laws.proofs.laws.an_answer_with_memory_is_the_reply.Goals as goal

pub returns-clause-reply : goal.returns-clause-reply
returns-clause-reply c = full_reply

pub returns-clause-handled : goal.returns-clause-handled
returns-clause-handled c = full_handled

pub returns-clause-frames : goal.returns-clause-frames
returns-clause-frames c = full_replies

pub returns-clause-answers : goal.returns-clause-answers
returns-clause-answers c = full_answered
