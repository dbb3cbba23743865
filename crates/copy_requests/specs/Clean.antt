-- Clean: a partition is cleaned up to a bound; in version 1 a part of it is. This project's own request; see Kafka's design
-- documentation, "Log Compaction".
use Rattle.std.specs.Prelude.{ℕ, ℤ, pos, true, List, [], ◌∷◌}
use Rattle.content.specs.declared.part.CleaningPart.{CleaningPart}
use Rattle.content.specs.declared.report.CleanReport.{CleanReport}
use Rattle.content.specs.Content.{Content}
use Rattle.content.specs.Cleaning.{clean, clean_report}
use Rattle.content.specs.Parts.{clean_part, part_report}
use Rattle.request_frames.specs.Clean.{CleanValue}
use Rattle.request_frames.specs.CleanPart.{CleanPartValue}
use Rattle.responses.specs.declared.clean.CleanAnswer.{CleanAnswer}
use Rattle.responses.specs.Responses.{response}
use Rattle.responses.specs.Clean.{clean_response, clean_value}
use Rattle.answering.specs.Codes.{no_error, code_number}
use Rattle.answering.specs.Work.{Work}
use Rattle.broker_state.specs.State.{State, content_at, with_content}
use Rattle.broker_state.specs.Checks.{unknown}
use Rattle.copy_requests.specs.declared.clean.Cleaning.{Cleaning}
use Rattle.copy_requests.specs.declared.clean.Cleaning.TheVariants.{Whole, Part}

-- ---- a cleaning in either version

-- what it leaves
abbrev pub cleaned : Cleaning → Content → Content
cleaned (Whole upto tomb_before) c = clean upto tomb_before c
cleaned (Part part) c = clean_part part c

-- how much goes
abbrev pub cleaning_report : Cleaning → Content → CleanReport
cleaning_report (Whole upto tomb_before) c = clean_report upto tomb_before c
cleaning_report (Part part) c = part_report part c

-- how many records, tombstones and batches went
abbrev pub clean_result : CleanReport → CleanAnswer
clean_result report = record {
  code = no_error;
  records = pos report.records;
  tombstones = pos report.tombstones;
  batches = pos report.batches;
}

abbrev pub cleaning_work : State → (topic : List ℕ) → (partition : ℤ) → Cleaning → Work CleanAnswer State
cleaning_work s topic partition cleaning =
    let c = content_at s topic partition in
    record {
      early = unknown s topic partition ∷ [];
      takes_memory = true;
      late = [];
      done = (clean_result (cleaning_report cleaning c), with_content s topic partition (cleaned cleaning c));
      failed = λ code. record { code = code_number code; records = pos 0; tombstones = pos 0; batches = pos 0 };
    }

-- ---- its request

abbrev pub clean_work : State → CleanValue → Work CleanAnswer State
clean_work s q = cleaning_work s q.topic q.partition (Whole q.upto q.tomb_before)

-- of version 1
abbrev pub asked_part : CleanPartValue → CleaningPart
asked_part q = record { from = q.from; to = q.to; upto = q.upto; tomb_before = q.tomb_before }

abbrev pub clean_part_work : State → CleanPartValue → Work CleanAnswer State
clean_part_work s q = cleaning_work s q.topic q.partition (Part (asked_part q))

-- ---- the response, in either version

abbrev pub clean_sent : (correlation : ℤ) → CleanAnswer → List ℕ
clean_sent correlation r = response correlation clean_response (clean_value r)
