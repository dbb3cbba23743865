-- What a journal stands behind.
use Rattle.std.specs.Prelude.{◌≡◌, ℕ, ℤ, not, true, List, Some, None, MatchOption}
use Rattle.std.specs.Option.{is_some}
use Rattle.std.specs.Int.{cast_signed, from_be_bytes, w64}
use Rattle.journal.specs.declared.head.Head.{Head}
use Rattle.kept_starts.specs.declared.places.Stood.{Stood}
use Rattle.kept_starts.specs.declared.places.Stood.TheVariants.{OfJournal, OfSnapshot}

-- a key as a number, as snapshots have it
abbrev pub key_number : List ℕ → ℤ
key_number key = cast_signed w64 (from_be_bytes w64 key)

-- what the next journal stands behind, where one has this head and ends there
abbrev pub stood_behind : (h : Head) (end : ℕ) → Stood
stood_behind h end = OfJournal (record { number = h.number; key = h.key; size = end }) (not (is_some h.before))

-- A journal with this head may stand there: it is the one whose key the snapshot has; or it says what stands before it. One of version 0, which
-- doesn't say it, stands behind such ones alone.
abbrev pub IsPlaced : Stood → Head → Type 0
IsPlaced (OfSnapshot None) h = Unit {0}
IsPlaced (OfSnapshot (Some key)) h = key_number h.key ≡ key
IsPlaced (OfJournal b is_old) h = MatchOption h.before (is_old ≡ true) (λ said. said ≡ b)
