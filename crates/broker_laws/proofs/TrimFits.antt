-- The response to Trim fits its fields, and the state stays sound: an accepted start lies within the offsets.
use Rattle.std.proofs.Common.{◌≡◌, ℕ, ◌≤◌, ℤ, List, ◌∷◌, Option, Some, None, sym, ◌∙◌, arith}
use Rattle.std.specs.Prelude.{FitsSigned}
use Rattle.std.specs.Int.{w16, w32}
use Rattle.content.specs.Content.{Content, IsContent, IsAcceptedStart, cut}
use Rattle.content_laws.proofs.ContentSteps.{content_cut}
use Rattle.partition_log.proofs.Trimmed.{accepted_most}
use Rattle.frame_fields.specs.Fields.{Value, Fits, encoded}
use Rattle.request_frames.specs.Trim.{trim_fields, trim_request}
use Rattle.responses.specs.Trim.{trim_response, trim_value}
use Rattle.answering.specs.declared.codes.ErrorCode.{ErrorCode}
use Rattle.answering.specs.Codes.{no_error, code_number}
use Rattle.answering.specs.Lists.{first_some}
use Rattle.answering.specs.Work.{MayAnswer}
use Rattle.answering.specs.Once.{RepliesOnce}
use Rattle.answering.proofs.Checks.{none_behind}
use Rattle.broker_state.specs.State.{State, content_at}
use Rattle.broker_state.specs.Sound.{IsSound}
use Rattle.broker_state.specs.Checks.{unknown}
use Rattle.broker_state.proofs.SoundStates.{content_valid, sound_with}
use Rattle.copy_requests.specs.Trim.{trim_faults, trim_work, trim_sent}
use Rattle.copy_requests.proofs.Trims.{passes_accepted}
use Rattle.broker_laws.proofs.Said.{IsPart}
use Rattle.broker_laws.proofs.Works.{no_error_fits, code_fits}
use Rattle.broker_laws.proofs.FittingResponses.{IsKept, frame_limit}
use Rattle.broker_laws.proofs.OnceFits.{FitsOnce, once_fits}

answered : (code : ℤ) → FitsSigned w16 code → FitsOnce trim_response (trim_value (record { code = code }))
unfolding Fits encoded
answered code c = record { fits = (c, tt); size = omega arith }

behind_first : (x : Option ErrorCode) (more : List (Option ErrorCode)) → first_some (x ∷ more) ≡ None → first_some more ≡ None
behind_first None more e = e
behind_first (Some code) more e = absurd cc

cut_valid : (c : Content) (start : ℤ) → IsContent c → IsAcceptedStart c start → IsContent (cut start c)
cut_valid c start is accepted = content_cut c start is accepted.from_start (accepted_most c start is accepted)

pub trim_fits : (n : ℕ) (s : State) (correlation : ℤ) (v : Value trim_fields) (out : Option (List ℕ)) (after : State) → n ≤ frame_limit → IsSound s → FitsSigned w32 correlation → IsPart n trim_fields v
    → RepliesOnce (λ R S w. MayAnswer w) (trim_sent correlation) (trim_work s (trim_request v)) s out after → IsKept correlation trim_response out after
trim_fits n s correlation v out after low sound number part h =
    let q = trim_request v in
    let c = content_at s q.topic q.partition in
    once_fits correlation trim_response trim_value (trim_work s q) s out after number sound
    (λ code. answered (code_number code) (code_fits code))
    (λ none. (
      answered no_error no_error_fits,
      sound_with s q.topic q.partition (cut q.start c) (cut_valid c q.start (content_valid s q.topic q.partition sound)
          (passes_accepted c q.start (behind_first (unknown s q.topic q.partition) (trim_faults c q.start) (sym (none_behind (trim_work s q).early) ∙ none)))) sound,
    ))
    h
