use Rattle.std.proofs.Common.{◌≡◌, ◌≤◌, ◌++◌, ◌∙◌, Some, ap, sym, arith, length, rules}
use Rattle.std.specs.Prelude.{map}
use Rattle.std.specs.List.{flat_map}
use Rattle.std.proofs.lemmas.List.{length-map}
use Rattle.frame_fields.specs.Arrays.{values}
use Rattle.frame_fields.specs.Fields.{end}
use Rattle.frame_fields.specs.Types.{string, ◌⨾◌}
use Rattle.responses.specs.Metadata.{metadata_head, metadata_topic_bytes, metadata_leader_id}
use Rattle.log_requests.specs.Metadata.{metadata_leader, metadata_at, each_once}
use Rattle.log_requests.specs.Metadata.Names.{metadata_names}
use Rattle.answering.proofs.Begun.{on_ok, begins_both, on_err}
use Rattle.log_requests.proofs.MetadataNames.{set_fits}
use Rattle.log_requests.proofs.MetadataTopics.{body_written}
use Rattle.log_requests.proofs.metadata.put_asked.Goals as goal

pub overflow_cast-len : goal.overflow_cast-len
overflow_cast-len g c =
    let asked = metadata_names c.args.names.now in
    let keys = c.in_ok-set.set.keys in
    let once : map (λ name. name.now) keys ≡ each_once asked = c.in_ok-set.ensures ∙ ap (λ names. each_once (metadata_names names)) c.duplicate.ensures in
    let sent : length asked ≤ c.len-sent.result = omega (arith, c.len-sent.ensures, length-map (values (string ⨾ end) c.args.names.now) (λ name. name.0)) in
    let here : length keys ≤ c.len-sent.result = set_fits keys asked c.len-sent.result once sent in
    omega (arith, here, c.len-sent.type_inv, c.len.ensures.len)

pub returns-clause-appends : goal.returns-clause-appends
returns-clause-appends g c =
    let s = c.args.state.now in
    let asked = metadata_names c.args.names.now in
    let begun = c.args.out.now.items in
    let keys = c.in_ok-set.set.keys in
    let heads : c.put_broker.new.out.items ≡ begun ++ metadata_head s.config.node_id s.config.host s.config.port (metadata_leader_id (metadata_leader s.config)) (length keys) = search rules in
    let once : map (λ name. name.now) keys ≡ each_once asked = c.in_ok-set.ensures ∙ ap (λ names. each_once (metadata_names names)) c.duplicate.ensures in
    let counts = sym (length-map keys (λ name. name.now)) ∙ ap length once ∙ sym (length-map (each_once asked) (metadata_at s)) in
    let names : map (λ name. name.now) c.as_slice.result.now ≡ each_once asked = ap (map (λ name. name.now)) c.as_slice.ensures.keys ∙ once in
    on_ok c.put_names.result
    (λ e. body_written s (Some asked) begun c.put_broker.new.out.items c.put_names.new.out.items (length keys) counts c.metadata_parts.ensures heads
    (e ∙ ap (λ ns. c.put_broker.new.out.items ++ flat_map metadata_topic_bytes (map (metadata_at s) ns)) names))
    c.put_names.ensures.appends

pub returns-clause-begins : goal.returns-clause-begins
returns-clause-begins g c =
    let s = c.args.state.now in
    let old = c.args.out.now.items in
    let head = metadata_head s.config.node_id s.config.host s.config.port (metadata_leader_id (metadata_leader s.config)) (length c.in_ok-set.set.keys) in
    let heads : c.put_broker.new.out.items ≡ old ++ head = search rules in
    on_err c.put_names.result (begins_both old c.put_broker.new.out.items c.put_names.new.out.items (head, heads)) c.put_names.ensures.begins
