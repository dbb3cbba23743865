-- The producer ids that replies give. Kafka's documentation, "Protocol Guide", section "The Messages": in a response to
-- InitProducerId the error code and the id stand behind the size, the correlation id and the throttle time, 4 bytes
-- each.
use Rattle.std.specs.Prelude.{◌≡◌, ℕ, zero, suc, ℤ, pos, ◌+ℤ◌, List, [], ◌∷◌, ◌++◌, length, drop, Option, Some, if◌then◌else◌}
use Rattle.std.specs.Ordering.{int_eq}
use Rattle.frame_fields.specs.Fields.{size16, size64, number_at}
use Rattle.request_frames.specs.Requests.BodyValue.{init_producer_id}
use Rattle.request_frames.specs.Requests.{BodyValue, RequestValue}
use Rattle.answering.specs.Codes.{no_error}

abbrev pub code_in : List ℕ → ℤ
code_in bytes = number_at size16 (drop 12 bytes)

abbrev pub id_in : List ℕ → ℤ
id_in bytes = number_at size64 (drop 14 bytes)

-- the id that a response gives, if its code is 0
abbrev pub ids_in : BodyValue → Option (List ℕ) → List ℤ
ids_in (init_producer_id transactional_id) (Some bytes) =
    if int_eq (code_in bytes) no_error then id_in bytes ∷ [] else []
ids_in body out = []

-- those of the replies to requests, in their order
abbrev pub ids_given : List RequestValue → List (Option (List ℕ)) → List ℤ
ids_given (q ∷ qs) (out ∷ outs) = ids_in q.body out ++ ids_given qs outs
ids_given [] outs = []
ids_given (q ∷ qs) [] = []

-- first, first + 1, ..
abbrev pub in_a_row : (first : ℤ) (count : ℕ) → List ℤ
in_a_row first zero = []
in_a_row first (suc count) = first ∷ in_a_row (first +ℤ pos 1) count

-- the ids are numbers in a row, and what comes next is the number behind them
pub record AreInARow (first : ℤ) (ids : List ℤ) (next : ℤ) : Type 0 where
  pub in_order : ids ≡ in_a_row first (length ids)
  pub next_one : next ≡ first +ℤ pos (length ids)
