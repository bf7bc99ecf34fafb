-- Reading uses up what may still be read.
use Rattle.std.proofs.Common.{◌≡◌, ℕ, ◌+◌, ◌≤◌, ◌<◌, Bool, true, false, List, [], ◌∷◌, length, subst, arith, length-append}
use Rattle.std.specs.Prelude.{if◌then◌else◌, sum_by}
use Rattle.std.proofs.lemmas.List.Sums.{sum_by-cons}
use Rattle.paw_base.specs.Bytes.{Bytes, Line, Lines}
use Rattle.paw_base.specs.declared.limits.TheConstants.{READ_LIMIT}
use Rattle.paw_base.specs.declared.parts.Condact.{Condact}
use Rattle.paw_base.specs.declared.flags.TheConstants.{PRONOUN_NOUN_FLAG, PRONOUN_ADJECTIVE_FLAG}
use Rattle.paw_effects.specs.Story.{Story}
use Rattle.paw_world.specs.World.{flag}
use Rattle.paw_phrase.specs.Sentence.{Parsed, IsSentence, IsUnknown}
use Rattle.paw_phrase.proofs.Phrases.{LeavesBytes, parsed-shorter}
use Rattle.paw_effects.specs.declared.act.Prompt.{Prompt}
use Rattle.paw_effects.specs.Effects.{effect_of}
use Rattle.paw_reading.specs.declared.frames.Frame.{Frame}
use Rattle.paw_reading.specs.Run.{Run}
use Rattle.paw_reading.specs.Reading.{Out, step_noted, table_read, coming_phrase}
use Rattle.paw_reading.specs.GoingOn.{on_path}
use Rattle.paw_reading.specs.Turn.{left_to_read}
use Rattle.paw_reading.proofs.RunInduction.{RunClaim, RunCarries, Ends, table_ends, path_ends}

-- What lines bring.
abbrev pub brought : Lines → ℕ
brought lines = sum_by (λ line. length line + (READ_LIMIT + 1)) lines

-- One line more brings so much more.
pub brought_more : (line : Line) (lines : Lines) → brought (line ∷ lines) ≡ length line + (READ_LIMIT + 1) + brought lines
brought_more line lines = sum_by-cons (λ l. length l + (READ_LIMIT + 1)) line lines

-- At most so much is left to read, and less after an action or a line, and so where the turn begins anew.
abbrev pub claim : ℕ → RunClaim
claim v = record {
  on = λ r. left_to_read r ≤ v;
  acted = λ r. left_to_read r < v;
  closed = λ r lines. length r.pending + brought lines ≤ v;
  wait = λ p path r. Unit {0};
  anew = λ r. left_to_read r < v;
  halt = λ halt r. Unit {0};
}

abbrev pub Spends : ℕ → Out → Type 0
Spends v x = Ends (claim v) x

-- Reading on from a run spends.
abbrev pub IsSpending : (Run → Out) → Type 0
IsSpending f = (r : Run) → Spends (left_to_read r) (f r)

dropped_less : (b : Bool) (bytes : Bytes) → length (if b then [] else bytes) ≤ length bytes
dropped_less true bytes = omega arith
dropped_less false bytes = omega arith

more_read : (f : Frame) (c : Condact) (b : Bool) (r : Run) → length (step_noted f c b r).read ≡ length r.read + 1
more_read f c b r = length-append r.read _

-- What is left of the line once a phrase was read.
pub shorter : (g : Story) (r : Run) (p : Parsed) → coming_phrase g r ≡ p → LeavesBytes (λ rest. length rest < length r.pending) p
shorter g r p is =
    subst (LeavesBytes (λ rest. length rest < length r.pending)) is
    (parsed-shorter g.game r.pending r.earlier (flag r.world PRONOUN_NOUN_FLAG) (flag r.world PRONOUN_ADJECTIVE_FLAG))

carries : (g : Story) (v : ℕ) → RunCarries g (claim v)
carries g v = record {
  printed = λ r text k said fit. k;
  tested = λ f c b r stands k few. omega (arith, k, few, more_read f c b r);
  acts = λ f c r stands k few fit.
      omega (arith, k, few, more_read f c true r, dropped_less (effect_of g r.world c).act.drop_line r.pending);
  reads_on = λ r k. omega (arith, k);
  sentence = λ r s left k is. omega (arith, k, shorter g r (IsSentence s left) is);
  unknown = λ r left k is. omega (arith, k, shorter g r (IsUnknown left) is);
  taken = λ l o r few k. k;
  no_loop = λ r k. k;
  closes = λ r k. omega (arith, k);
  waits = λ p f r k. tt;
  ignored = λ r line lines k. omega (arith, k, brought_more line lines);
  heard = λ r line lines k. omega (arith, k, brought_more line lines);
  above = λ p f path r k. tt;
  exhausted = λ r k. tt;
  too_long = λ r k. tt;
  unfit = λ f c r k few. tt;
  too_deep = λ u r k. tt;
  redescribed = λ r k. k;
  restarted = λ r k. omega (arith, k);
  ended = λ r k. tt;
}

pub table_spends : (g : Story) (t : ℕ) → IsSpending (table_read g t)
table_spends g t r = table_ends g (claim (left_to_read r)) (carries g (left_to_read r)) t r (omega arith)

-- Going on along a path spends.
pub path_spends : (g : Story) (p : Prompt) (lv : ℕ) (path : List Frame) → IsSpending (on_path g p lv path)
path_spends g p lv [] r = omega arith
path_spends g p lv (f ∷ path) r = path_ends g (claim (left_to_read r)) (carries g (left_to_read r)) p lv f path r (omega arith)
