-- What answering a request does to the output. Kafka's documentation, "Protocol Guide", section "Network" (one response
-- for each request, in the order of the requests).
use Rattle.std.specs.Prelude.{◌≡◌, ℕ, List, [], ◌++◌, Option}
use Rattle.std.specs.Option.{unwrap_or}
use Rattle.answering.specs.Work.{MayAnswer}
use Rattle.answering.specs.Plans.{Plan, RepliesBy}

-- the bytes that go out for a reply
abbrev pub sent : Option (List ℕ) → List ℕ
sent out = unwrap_or out []

-- The output has what may be replied by the plan behind what it held, and this is the broker's state after. Any entry
-- whose work takes memory may lack it.
pub record RespondsBy {E R S B : Type 0} (p : Plan E R S B) (held held' : List ℕ) (after : B) : Type 0 where
  pub response : Option (List ℕ)
  pub replies : RepliesBy (λ R S w. MayAnswer w) p response after
  pub appends : held' ≡ held ++ sent response
