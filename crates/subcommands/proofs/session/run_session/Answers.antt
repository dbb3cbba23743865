use Rattle.std.proofs.Common.{refl}
use Rattle.broker_state.specs.ConfigValues.{config_value}
use Rattle.subcommands.proofs.Statuses.{refused_config, valid_config, failed_status}
use Rattle.subcommands.proofs.RunLemmas.{session_done, session_failed, session_refused}
use Rattle.subcommands.proofs.session.run_session.Goals as goal

pub returns-in-Err-clause-runs : goal.returns-in-Err-clause-runs
returns-in-Err-clause-runs g c =
    let told = refused_config (config_value c.args.config) c.in-Err.why c.refuse_configuration.result c.in-Err.ensures.refuses c.refuse_configuration.ensures.out_of_memory c.refuse_configuration.ensures.faulty in
    session_refused (config_value c.args.config) c.args.source.now c.args.sink.now c.refuse_configuration.result c.refuse_configuration.ensures.is_status told.0
    (valid_config (config_value c.args.config) c.in-Err.why c.refuse_configuration.result c.in-Err.ensures.refuses c.refuse_configuration.ensures.faulty)

pub returns-in-Err-clause-invalid_is_a_fault : goal.returns-in-Err-clause-invalid_is_a_fault
returns-in-Err-clause-invalid_is_a_fault g c =
    (refused_config (config_value c.args.config) c.in-Err.why c.refuse_configuration.result c.in-Err.ensures.refuses c.refuse_configuration.ensures.out_of_memory c.refuse_configuration.ensures.faulty).1

pub returns-in-Ok-answer_frames-clause-runs : goal.returns-in-Ok-answer_frames-clause-runs
returns-in-Ok-answer_frames-clause-runs g c =
    session_done (config_value c.args.config) c.in-Ok.node c.answer_frames.new.node c.args.source.now c.answer_frames.new.source c.args.sink.now c.answer_frames.new.sink 0
    c.in-Ok.ensures.valid c.in-Ok.ensures.is_new refl c.in-Ok-answer_frames.ensures.answers (c.in-Ok-answer_frames.ensures.reads, c.in-Ok-answer_frames.ensures.flushes)

pub returns-clause-runs : goal.returns-clause-runs
returns-clause-runs g c =
    session_failed (config_value c.args.config) c.in-Ok.node c.answer_frames.new.node c.args.source.now c.answer_frames.new.source c.args.sink.now c.answer_frames.new.sink
    c.in-Err-answer_frames.why c.fail_session.result c.in-Ok.ensures.valid c.in-Ok.ensures.is_new c.fail_session.ensures c.in-Err-answer_frames.ensures.refuses c.in-Err-answer_frames.ensures.fails

pub returns-clause-is_status : goal.returns-clause-is_status
returns-clause-is_status g c = (failed_status c.in-Err-answer_frames.why c.fail_session.result c.fail_session.ensures).0

pub returns-clause-done_complains_of_nothing : goal.returns-clause-done_complains_of_nothing
returns-clause-done_complains_of_nothing g c = λ done. absurd ((failed_status c.in-Err-answer_frames.why c.fail_session.result c.fail_session.ensures).1 done)

pub returns-clause-invalid_is_a_fault : goal.returns-clause-invalid_is_a_fault
returns-clause-invalid_is_a_fault g c = λ faulty. absurd (faulty c.in-Ok.ensures.valid)
