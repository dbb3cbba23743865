-- Lemmas on what was sent to a writer, and what waits before it.
use Rattle.std.proofs.Common.{◌≡◌, ℕ, ◌+◌, ◌-◌, ◌<◌, None, Some, List, [], ◌∷◌, ◌++◌, get_or, length, take, drop, map, Option, refl, sym, ap, subst, ◌∙◌, append_assoc, append-nil, take-append-drop, take_all, ◌≤◌, arith}
use Rattle.std.proofs.KnownBytes.{Appends-nil, Appends-trans, Appends-kept}
use Rattle.std.proofs.lemmas.List.Concat.{flat_map-append}
use Rattle.std.proofs.lemmas.List.{length-append, map-append, take_more}
use Rattle.std.specs.List.{position}
use Rattle.std.specs.Io.KnownBytes.{Appends, Keeps}
use Rattle.table_lines.specs.Lines.{line, lines, printed, printed_byte}
use Rattle.table_lines.proofs.Printed.{is_escaped, all_printed, run_printed, printed_split}
use Rattle.table_lines.specs.Output.{Sends, SendsAllBut}
use Rattle.streams.specs.State.{TakesAllBut, LosesRest, TakesFront}

-- all waits
pub sends_later : (a : Option (List ℕ)) (waited waiting more : List ℕ) → waiting ≡ waited ++ more → Sends a a waited waiting more
sends_later a waited waiting more grown = record { sent = []; appends = Appends-nil a; waits = grown }

-- all went to the writer
pub sends_now : (a b : Option (List ℕ)) (waited all waiting more : List ℕ) → all ≡ waited ++ more → Appends a b all → waiting ≡ [] → Sends a b waited waiting more
sends_now a b waited all waiting more grown written none = record {
  sent = all;
  appends = written;
  waits = ap (λ (t : List ℕ). all ++ t) none ∙ append-nil all ∙ grown;
}

pub sends_then : (a b c : Option (List ℕ)) (u v w x y : List ℕ) → Sends a b u v x → Sends b c v w y → Sends a c u w (x ++ y)
sends_then a b c u v w x y p q = record {
  sent = p.sent ++ q.sent;
  appends = Appends-trans a b c p.sent q.sent p.appends q.appends;
  waits =
      append_assoc p.sent q.sent w ∙ ap (λ (t : List ℕ). p.sent ++ t) q.waits ∙ sym (append_assoc p.sent v y)
      ∙ ap (λ (t : List ℕ). t ++ y) p.waits ∙ append_assoc u x y;
}

-- what waited went to the writer, and the bytes after it
pub sends_past : (a b c : Option (List ℕ)) (waited waiting more : List ℕ) → Appends a b waited → waiting ≡ [] → Appends b c more → Sends a c waited waiting more
sends_past a b c waited waiting more before none after = record {
  sent = waited ++ more;
  appends = Appends-trans a b c waited more before after;
  waits = ap (λ (t : List ℕ). (waited ++ more) ++ t) none ∙ append-nil (waited ++ more);
}

-- what waited went to the writer, and the bytes wait
pub sends_first : (a b : Option (List ℕ)) (waited none waiting more : List ℕ) → Appends a b waited → none ≡ [] → waiting ≡ none ++ more → Sends a b waited waiting more
sends_first a b waited none waiting more before empty grown = record {
  sent = waited;
  appends = before;
  waits = ap (λ (t : List ℕ). waited ++ t) (grown ∙ ap (λ (t : List ℕ). t ++ more) empty);
}

-- ---- the printed form of bytes, run by run

pub sends_none : (a : Option (List ℕ)) (waited bytes : List ℕ) → SendsAllBut a a waited waited bytes bytes
sends_none a waited bytes = record { more = []; sends = sends_later a waited waited [] (sym (append-nil waited)); parts = refl }

pub sends_more : (a b c : Option (List ℕ)) (u v w left less all : List ℕ) → SendsAllBut a b u v left all → SendsAllBut b c v w less left → SendsAllBut a c u w less all
sends_more a b c u v w left less all p q = record {
  more = p.more ++ q.more;
  sends = sends_then a b c u v w p.more q.more p.sends q.sends;
  parts = p.parts ∙ ap (λ (t : List ℕ). p.more ++ t) q.parts ∙ sym (append_assoc p.more q.more less);
}

pub sends_all : (a b : Option (List ℕ)) (u v left all : List ℕ) → left ≡ [] → SendsAllBut a b u v left all → Sends a b u v all
sends_all a b u v left all none s = subst (Sends a b u v) (sym (s.parts ∙ ap (λ (t : List ℕ). s.more ++ t) none ∙ append-nil s.more)) s.sends

pub sends_unescaped : (a b : Option (List ℕ)) (u v bytes : List ℕ) → position is_escaped bytes ≡ None → Sends a b u v bytes
    → SendsAllBut a b u v (printed (take (length bytes - length bytes) (drop (length bytes) bytes))) (printed bytes)
sends_unescaped a b u v bytes none s = record { more = bytes; sends = s; parts = all_printed bytes none }

pub sends_run : (a b c : Option (List ℕ)) (u v w bytes : List ℕ) (k : ℕ) → position is_escaped bytes ≡ Some k → Sends a b u v (take k bytes) → Sends b c v w (printed_byte (get_or bytes k 0))
    → SendsAllBut a c u w (printed (take (length bytes - (k + 1)) (drop (k + 1) bytes))) (printed bytes)
sends_run a b c u v w bytes k some p q = record {
  more = take k bytes ++ printed_byte (get_or bytes k 0);
  sends = sends_then a b c u v w _ _ p q;
  parts = run_printed bytes k some;
}

-- ---- a write that failed: a front of what waited and came behind it went to the writer

-- a front of some bytes is one of more
pub front_longer : (a b : Option (List ℕ)) (bytes all rest : List ℕ) → all ≡ bytes ++ rest → LosesRest a b bytes → LosesRest a b all
front_longer a b bytes all rest parts l = (
  l.0 ++ rest,
  omega (arith, l.1, length-append l.0 rest),
  record {
    front = l.2.front;
    parts = parts ∙ ap (λ (x : List ℕ). x ++ rest) l.2.parts ∙ append_assoc l.2.front l.0 rest;
    appends = l.2.appends;
  },
)

pub front_lost : (a b : Option (List ℕ)) (bytes : List ℕ) → LosesRest a b bytes → TakesFront a b bytes
front_lost a b bytes l = (l.0, l.2)

-- what waited didn't all go, so nothing behind it did
pub front_waited : (a b : Option (List ℕ)) (waited more : List ℕ) → LosesRest a b waited → LosesRest a b (waited ++ more)
front_waited a b waited more l = front_longer a b waited (waited ++ more) more refl l

all_but_past : (a b c : Option (List ℕ)) (waited rest more : List ℕ) → Appends a b waited → TakesAllBut b c rest more → TakesAllBut a c rest (waited ++ more)
all_but_past a b c waited rest more before t = record {
  front = waited ++ t.front;
  parts = ap (λ (x : List ℕ). waited ++ x) t.parts ∙ sym (append_assoc waited t.front rest);
  appends = Appends-trans a b c waited t.front before t.appends;
}

-- what waited went, and a front of the bytes behind it
front_past : (a b c : Option (List ℕ)) (waited more : List ℕ) → Appends a b waited → TakesFront b c more → TakesFront a c (waited ++ more)
front_past a b c waited more before t = (t.0, all_but_past a b c waited t.0 more before t.1)

-- the same, where some are lost
pub lost_past : (a b c : Option (List ℕ)) (waited more : List ℕ) → Appends a b waited → LosesRest b c more → LosesRest a c (waited ++ more)
lost_past a b c waited more before l = (l.0, l.1, all_but_past a b c waited l.0 more before l.2)

-- all of them went
pub front_all : (a b : Option (List ℕ)) (bytes : List ℕ) → Appends a b bytes → TakesFront a b bytes
front_all a b bytes all = ([], record { front = bytes; parts = sym (append-nil bytes); appends = all })

-- bytes were sent, and a front of what then waited and came behind it went
pub front_then : (a b c : Option (List ℕ)) (u v x y : List ℕ) → Sends a b u v x → LosesRest b c (v ++ y) → LosesRest a c (u ++ (x ++ y))
front_then a b c u v x y s l =
    let parts : s.sent ++ (v ++ y) ≡ u ++ (x ++ y) =
    sym (append_assoc s.sent v y) ∙ ap (λ (k : List ℕ). k ++ y) s.waits ∙ append_assoc u x y in
    subst (λ (k : List ℕ). LosesRest a c k) parts (lost_past a b c s.sent (v ++ y) s.appends l)

-- bytes were sent, and a front of what then waited went
front_last : (a b c : Option (List ℕ)) (u v x : List ℕ) → Sends a b u v x → TakesFront b c v → TakesFront a c (u ++ x)
front_last a b c u v x s t = subst (λ (k : List ℕ). TakesFront a c k) s.waits (front_past a b c s.sent v s.appends t)

-- a front of the bytes, and of others behind them
pub front_part : (a b : Option (List ℕ)) (u x all rest : List ℕ) → all ≡ x ++ rest → LosesRest a b (u ++ x) → LosesRest a b (u ++ all)
front_part a b u x all rest parts t =
    front_longer a b (u ++ x) (u ++ all) rest (ap (λ (k : List ℕ). u ++ k) parts ∙ sym (append_assoc u x rest)) t

-- of the unescaped bytes in front of an escape
pub front_run : (a b : Option (List ℕ)) (u bytes : List ℕ) (k : ℕ) → position is_escaped bytes ≡ Some k → LosesRest a b (u ++ take k bytes) → LosesRest a b (u ++ printed bytes)
front_run a b u bytes k some t = front_part a b u (take k bytes) (printed bytes) _ (printed_split bytes k some) t

-- and of the escape behind them
pub front_escape : (a b c : Option (List ℕ)) (u v bytes : List ℕ) (k : ℕ) → position is_escaped bytes ≡ Some k → Sends a b u v (take k bytes) → LosesRest b c (v ++ printed_byte (get_or bytes k 0)) → LosesRest a c (u ++ printed bytes)
front_escape a b c u v bytes k some s t =
    front_part a c u (take k bytes ++ printed_byte (get_or bytes k 0)) (printed bytes) _ (run_printed bytes k some) (front_then a b c u v _ _ s t)

-- of bytes that are all unescaped
pub front_plain : (a b : Option (List ℕ)) (u bytes : List ℕ) → printed bytes ≡ bytes → LosesRest a b (u ++ bytes) → LosesRest a b (u ++ printed bytes)
front_plain a b u bytes same t = subst (λ (k : List ℕ). LosesRest a b (u ++ k)) (sym same) t

-- bytes of which some are left
pub front_left : (a b c : Option (List ℕ)) (u v left all : List ℕ) → SendsAllBut a b u v left all → LosesRest b c (v ++ left) → LosesRest a c (u ++ all)
front_left a b c u v left all s t = subst (λ (k : List ℕ). LosesRest a c (u ++ k)) (sym s.parts) (front_then a b c u v s.more left s.sends t)

-- ---- a line: a key, a sign, a value and an end

pub front_key : (a b : Option (List ℕ)) (u key sign value end : List ℕ) → LosesRest a b (u ++ key) → LosesRest a b (u ++ ((key ++ (sign ++ value)) ++ end))
front_key a b u key sign value end t = front_part a b u key ((key ++ (sign ++ value)) ++ end) ((sign ++ value) ++ end) (append_assoc key (sign ++ value) end) t

pub front_sign : (a b c : Option (List ℕ)) (u v key sign value end : List ℕ) → Sends a b u v key → LosesRest b c (v ++ sign) → LosesRest a c (u ++ ((key ++ (sign ++ value)) ++ end))
front_sign a b c u v key sign value end s t =
    let parts : (key ++ (sign ++ value)) ++ end ≡ (key ++ sign) ++ (value ++ end) =
    ap (λ (k : List ℕ). k ++ end) (sym (append_assoc key sign value)) ∙ append_assoc (key ++ sign) value end in
    front_part a c u (key ++ sign) ((key ++ (sign ++ value)) ++ end) (value ++ end) parts (front_then a b c u v key sign s t)

pub front_value : (a b c d : Option (List ℕ)) (u v w key sign value end : List ℕ) → Sends a b u v key → Sends b c v w sign → LosesRest c d (w ++ value) → LosesRest a d (u ++ ((key ++ (sign ++ value)) ++ end))
front_value a b c d u v w key sign value end s r t =
    let parts : (key ++ (sign ++ value)) ++ end ≡ ((key ++ sign) ++ value) ++ end =
    ap (λ (k : List ℕ). k ++ end) (sym (append_assoc key sign value)) in
    front_part a d u ((key ++ sign) ++ value) ((key ++ (sign ++ value)) ++ end) end parts
    (front_then a c d u w (key ++ sign) value (sends_then a b c u v w key sign s r) t)

-- ---- lines

-- what waited went to the writer too
pub sends_end : (a b c d : Option (List ℕ)) (waited waiting all : List ℕ) → Sends a b waited waiting all → Appends b c waiting → Keeps c d → Appends a d (waited ++ all)
sends_end a b c d waited waiting all s written kept =
    Appends-kept a c d (waited ++ all) (subst (Appends a c) s.waits (Appends-trans a b c s.sent waiting s.appends written)) kept

-- what waited went, but isn't flushed
pub front_unflushed : (b c d : Option (List ℕ)) (waiting : List ℕ) → Appends b c waiting → Keeps c d → TakesFront b d waiting
front_unflushed b c d waiting written kept = front_all b d waiting (Appends-kept b c d waiting written kept)

module _ {T : Type 0} (row : T → List ℕ × List ℕ) where
  lines_next : (k : ℕ) (rows : List T) (d : T) → k < length rows → lines (map row (take (k + 1) rows)) ≡ lines (map row (take k rows)) ++ line (row (get_or rows k d))
  lines_next k rows d within =
      ap (λ (t : List T). lines (map row t)) (take_more rows k d within)
      ∙ ap (λ (t : List (List ℕ × List ℕ)). lines t) (map-append row (take k rows) (get_or rows k d ∷ []))
      ∙ flat_map-append line (map row (take k rows)) (row (get_or rows k d) ∷ [])
      ∙ ap (λ (t : List ℕ). lines (map row (take k rows)) ++ t) (append-nil (line (row (get_or rows k d))))

  -- one row more
  pub sends_next : (a b c : Option (List ℕ)) (u v w : List ℕ) (k : ℕ) (rows : List T) (d : T) → k < length rows → Sends a b u v (lines (map row (take k rows))) → Sends b c v w (line (row (get_or rows k d))) → Sends a c u w (lines (map row (take (k + 1) rows)))
  sends_next a b c u v w k rows d within p q =
      subst (Sends a c u w) (sym (lines_next k rows d within)) (sends_then a b c u v w _ _ p q)

  -- within the line of a row
  pub front_next : (a b c : Option (List ℕ)) (u v : List ℕ) (k : ℕ) (rows : List T) (d : T) → k < length rows → Sends a b u v (lines (map row (take k rows))) → LosesRest b c (v ++ line (row (get_or rows k d))) → LosesRest a c (u ++ lines (map row rows))
  front_next a b c u v k rows d within s t =
      let parts : lines (map row rows) ≡ lines (map row (take (k + 1) rows)) ++ lines (map row (drop (k + 1) rows)) =
      ap (λ (r : List T). lines (map row r)) (sym (take-append-drop (k + 1) rows)) ∙ ap (λ (r : List (List ℕ × List ℕ)). lines r) (map-append row (take (k + 1) rows) (drop (k + 1) rows))
      ∙ flat_map-append line (map row (take (k + 1) rows)) (map row (drop (k + 1) rows)) in
      let before : LosesRest a c (u ++ lines (map row (take (k + 1) rows))) =
      subst (λ (x : List ℕ). LosesRest a c (u ++ x)) (sym (lines_next k rows d within)) (front_then a b c u v _ _ s t) in
      front_part a c u (lines (map row (take (k + 1) rows))) (lines (map row rows)) (lines (map row (drop (k + 1) rows))) parts before

  -- what waited behind all lines
  pub front_closed : (a b c : Option (List ℕ)) (u v : List ℕ) (k : ℕ) (rows : List T) → length rows ≤ k → Sends a b u v (lines (map row (take k rows))) → TakesFront b c v → TakesFront a c (u ++ lines (map row rows))
  front_closed a b c u v k rows all s t =
      subst (λ (r : List T). TakesFront a c (u ++ lines (map row r))) (take_all k rows all) (front_last a b c u v _ s t)
