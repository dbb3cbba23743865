-- The copies of one partition: its leader's and its followers'. Kafka's design documentation, "Replication": each partition
-- has one leader, which appends all its batches; that copies are cleaned each by itself, and sent and merged as images,
-- is this project's own.
use Rattle.std.specs.Prelude.{ℕ, zero, suc, pos, List, [], ◌∷◌, ◌++◌, Option, Some, replicate, set, slice_get}
use Rattle.batch_codec.specs.Values.{BatchValue}
use Rattle.batch_codec.specs.Rebase.{with_base}
use Rattle.content.specs.Content.{Content, empty, add}
use Rattle.content.specs.Logs.{next_offset}
use Rattle.copy_images.specs.Images.{image_of}

pub record World : Type 0 where
  -- all batches that the leader appended, in order, as it appended them
  pub log : List BatchValue
  -- copy 0
  pub leader : Content
  -- the copies from 1 on
  pub followers : List Content
  -- the images that were sent, in order: the bytes of each
  pub images : List (List ℕ)

-- nothing was appended, seen or sent
abbrev pub new_world : ℕ → World
new_world followers = record { log = []; leader = empty; followers = replicate followers empty; images = [] }

-- a copy, by its number
abbrev pub copy_at : World → ℕ → Option Content
copy_at w zero = Some w.leader
copy_at w (suc i) = slice_get w.followers i

-- the world with another content for a copy
abbrev pub with_copy : ℕ → Content → World → World
with_copy zero c w = record w { leader = c }
with_copy (suc i) c w = record w { followers = set w.followers i c }

-- a batch as the leader appends it: at the end of the log, in leader epoch 0
abbrev pub at_log_end : World → BatchValue → BatchValue
at_log_end w b = with_base (next_offset w.log) (pos 0) b

-- the world after the leader appended a batch
abbrev pub with_appended : BatchValue → World → World
with_appended b w = record w { log = w.log ++ b ∷ []; leader = add w.leader b }

-- the world after an image of a copy was sent
abbrev pub with_image_of : Content → World → World
with_image_of c w = record w { images = w.images ++ image_of c ∷ [] }
