-- Lines after lines.
use Rattle.std.proofs.Common.{◌≡◌, ℕ, suc, true, false, ltb, [], ◌∷◌, ◌++◌, length, Result, Ok, Err, refl, ap}
use Rattle.std.proofs.Common.{◌∙◌}
use Rattle.std.specs.List.{list_all}
use Rattle.std.proofs.lemmas.Bool.{and_from}
use Rattle.std.proofs.lemmas.List.Folds.{list_all-append}
use Rattle.paw_base.specs.Bytes.{Line, Lines}
use Rattle.paw_base.specs.declared.limits.TheConstants.{IMAGE_LIMIT, TABLE_LEAST}
use Rattle.paw_base.specs.declared.fault.SourceKind.{SourceKind}
use Rattle.paw_game.specs.Image.{image}
use Rattle.paw_lex.specs.Bytes.{is_printed_byte}
use Rattle.paw_read_error.specs.Bind.{◌>>=◌}
use Rattle.paw_grammar.specs.GrammarState.{Spelt, game_of}
use Rattle.paw_grammar.specs.Spells.{after_line, at_line, whole, spelled_after}
use Rattle.paw_source.specs.inner.Laws.{after_lines}
use Rattle.paw_source.proofs.Faultless.{ok_is}

-- After d the line has no fault, and then e is spelled; its bytes are printed.
pub record LineReads (p : ℕ) (d : Spelt) (l : Line) (e : Spelt) : Type 0 where
  pub is : after_line p d l ≡ Ok e
  pub printed : list_all is_printed_byte l ≡ true

-- After d the lines have no fault, and then e is spelled; their bytes are printed.
pub record Reads (p : ℕ) (d : Spelt) (ls : Lines) (e : Spelt) : Type 0 where
  pub is : after_lines p d ls ≡ Ok e
  pub printed : list_all (list_all is_printed_byte) ls ≡ true

pub reads_none : (p : ℕ) (d : Spelt) → Reads p d [] d
unfolding after_lines
reads_none p d = record { is = refl; printed = refl }

pub reads_line : (p : ℕ) (d e f : Spelt) (l : Line) (ls : Lines) → LineReads p d l e → Reads p e ls f → Reads p d (l ∷ ls) f
unfolding after_lines
reads_line p d e f l ls first rest = record {
  is = ap (λ (r : Result Spelt SourceKind). r >>= λ x. after_lines p x ls) first.is ∙ rest.is;
  printed = and_from _ _ first.printed rest.printed;
}

after_lines-append : (p : ℕ) (d : Spelt) (ls ms : Lines) → after_lines p d (ls ++ ms) ≡ (after_lines p d ls >>= λ e. after_lines p e ms)
unfolding after_lines
after_lines-append p d [] ms = refl
after_lines-append p d (l ∷ ls) ms =
    elim (after_line p d l) as (λ r. (r >>= λ e. after_lines p e (ls ++ ms)) ≡ ((r >>= λ e. after_lines p e ls) >>= λ e. after_lines p e ms)) [
      | Ok e ↦ after_lines-append p e ls ms
      | Err k ↦ refl
    ]

pub reads_append : (p : ℕ) (d e f : Spelt) (ls ms : Lines) → Reads p d ls e → Reads p e ms f → Reads p d (ls ++ ms) f
reads_append p d e f ls ms first rest = record {
  is = after_lines-append p d ls ms ∙ ap (λ (r : Result Spelt SourceKind). r >>= λ x. after_lines p x ms) first.is ∙ rest.is;
  printed = list_all-append (list_all is_printed_byte) ls ms ∙ and_from _ _ first.printed rest.printed;
}

reading_is : (p n : ℕ) (d e : Spelt) (ls : Lines) → after_lines p d ls ≡ Ok e →
    ltb (length e.tables) TABLE_LEAST ≡ false → ltb IMAGE_LIMIT (length (image (game_of e))) ≡ false
    → spelled_after p n d ls ≡ Ok (game_of e)
unfolding after_lines spelled_after
reading_is p n d e [] h many small = ap (whole n) (ok_is d e h) ∙ rw (many, small) refl
reading_is p n d e (l ∷ ls) h many small =
    elim (after_line p d l) as (λ r. (r >>= λ x. after_lines p x ls) ≡ Ok e → at_line (suc n) r (λ x. spelled_after p (suc n) x ls) ≡ Ok (game_of e)) [
      | Ok x ↦ λ g. reading_is p (suc n) x e ls g many small
      | Err k ↦ λ g. absurd cc
    ] h

-- What lines with three tables spell.
pub reads_whole : (p : ℕ) (d e : Spelt) (ls : Lines) → Reads p d ls e → ltb (length e.tables) TABLE_LEAST ≡ false →
    ltb IMAGE_LIMIT (length (image (game_of e))) ≡ false
    → spelled_after p 0 d ls ≡ Ok (game_of e)
reads_whole p d e ls h many small = reading_is p 0 d e ls h.is many small
