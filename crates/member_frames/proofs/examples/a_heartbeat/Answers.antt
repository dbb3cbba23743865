use Rattle.member_frames.proofs.Rows.{heartbeat_read, one_byte_more}
use Rattle.member_frames.proofs.examples.a_heartbeat.Goals as goal

pub returns-clause-is_read : goal.returns-clause-is_read
returns-clause-is_read c = heartbeat_read

pub returns-clause-one_byte_more : goal.returns-clause-one_byte_more
returns-clause-one_byte_more c = one_byte_more
