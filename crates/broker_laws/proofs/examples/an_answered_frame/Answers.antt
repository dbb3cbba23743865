use Rattle.std.proofs.Common.{inl, pos, negsuc, [], ◌∷◌, None, refl, arith}
use Rattle.std.proofs.lemmas.Int.{ints}
use Rattle.request_frames.specs.declared.api.Api.TheVariants.{ListOffsets}
use Rattle.frame_fields.specs.Fields.{encoded, Fits, Value}
use Rattle.request_frames.specs.Requests.{body_fields, IsRequest}
use Rattle.broker_node.specs.Replies.{reply}
use Rattle.broker_laws.specs.Examples.{topic_t, leader, list_offsets_request, list_offsets_frame}
use Rattle.broker_node.proofs.PlannedReplies.{one_reply, may_be_replied}
use Rattle.broker_laws.proofs.examples.an_answered_frame.Goals as goal

abbrev asked : Value (body_fields ListOffsets)
asked = (None, (negsuc 0, ((topic_t, ((pos 0, (negsuc 0, tt)) ∷ [], tt)) ∷ [], tt)))

is_request : IsRequest list_offsets_frame (list_offsets_request (pos 7) (negsuc 0))
unfolding encoded Fits
is_request = inl (ListOffsets, record { has_header = omega arith; has_api = (refl, refl) }, asked, record { fits = grind (arith, ints); parts = refl }, refl)

pub returns-clause-size : goal.returns-clause-size
returns-clause-size c = refl

pub returns-clause-answered : goal.returns-clause-answered
returns-clause-answered c =
    let q = list_offsets_request (pos 7) (negsuc 0) in
    record {
      request = q;
      response = (reply leader q).0;
      reads = is_request;
      replies = may_be_replied leader leader q (reply leader q).0 ((one_reply leader leader q (reply leader q).0).1 refl);
      sends = refl;
    }
