-- How an input is cut: line by line, until a line is the marker.
use Rattle.std.proofs.Common.{◌≡◌, ◌+◌, ◌-◌, ◌≤◌, ℕ, List, [], ◌∷◌, ◌++◌, take, drop, length, refl, sym, ◌∙◌, ap, subst, Bool, true, false, cond, eqb}
use Rattle.std.proofs.Common.{append_assoc, arith}
use Rattle.std.proofs.lemmas.Bool.{eqb-true}
use Rattle.std.proofs.lemmas.List.{append-nil, drop-drop, drop_all, take_all, length-drop}
use Rattle.std.proofs.Math.Seq.{take-add}
use Rattle.std.specs.Prelude.{Some, None, option_map}
use Rattle.std.specs.List.{concat}
use Rattle.cqp_trace.specs.Lines.{lines, put_before}
use Rattle.cqp_tool.proofs.FirstLines.{BeginsWithLine}
use Rattle.cqp_tool.specs.Cut.{before_marker, behind_marker, is_marker, text_part, trace_part}

-- a byte before the first line is the first byte
before_joined : (b : ℕ) (ls : List (List ℕ)) → concat (put_before b ls) ≡ b ∷ concat ls
before_joined b [] = refl
before_joined b (l ∷ ls) = refl

-- a line feed ends the first line, and any other byte begins it
joined_one : (b : ℕ) (ls : List (List ℕ)) (t : Bool) → eqb b 10 ≡ t → concat (cond t ((10 ∷ []) ∷ ls) (put_before b ls)) ≡ b ∷ concat ls
joined_one b ls true e = ap (λ c. c ∷ concat ls) (sym (eqb-true b 10 e))
joined_one b ls false e = before_joined b ls

-- the lines of a text, one behind the other, are the text
pub joined_lines : (bytes : List ℕ) → concat (lines bytes) ≡ bytes
joined_lines [] = refl
joined_lines (b ∷ bs) = joined_one b (lines bs) (eqb b 10) refl ∙ ap (λ xs. b ∷ xs) (joined_lines bs)

-- a first line that isn't the marker belongs to the text
text_before : (l : List ℕ) (ls : List (List ℕ)) (t : Bool) → t ≡ false
    → concat (cond t [] (l ∷ before_marker ls)) ≡ l ++ concat (before_marker ls)
text_before l ls false e = refl
text_before l ls true e = cc

-- and the marker is looked for behind it
marker_behind : (ls : List (List ℕ)) (t : Bool) → t ≡ false → cond t (Some ls) (behind_marker ls) ≡ behind_marker ls
marker_behind ls false e = refl
marker_behind ls true e = cc

-- the marker as the first line ends the text
text_ended : (l : List ℕ) (ls : List (List ℕ)) (t : Bool) → t ≡ true → concat (cond t [] (l ∷ before_marker ls)) ≡ []
text_ended l ls false e = cc
text_ended l ls true e = refl

-- and what follows it is the trace
trace_follows : (ls : List (List ℕ)) (t : Bool) → t ≡ true → cond t (Some ls) (behind_marker ls) ≡ Some ls
trace_follows ls false e = cc
trace_follows ls true e = refl

-- no line up to the place is the marker, and none of these lines goes on behind it
pub record IsCutUpTo (input : List ℕ) (at : ℕ) : Type 0 where
  pub text : text_part input ≡ take at input ++ text_part (drop at input)
  pub trace : trace_part input ≡ trace_part (drop at input)

-- at the start nothing was looked at
pub cut_starts : (input : List ℕ) → IsCutUpTo input 0
cut_starts input = record { text = refl; trace = refl }

-- one line more that isn't the marker
pub cut_goes_on : (input : List ℕ) (at n : ℕ) → IsCutUpTo input at → BeginsWithLine (drop at input) n
    → is_marker (take n (drop at input)) ≡ false → IsCutUpTo input (at + n)
cut_goes_on input at n so line other =
    let rest = drop at input in
    let further : drop n rest ≡ drop (at + n) input = drop-drop n at input in
    let text : text_part rest ≡ take n rest ++ text_part (drop n rest) =
    ap (λ ls. concat (before_marker ls)) line ∙ text_before (take n rest) (lines (drop n rest)) (is_marker (take n rest)) other in
    let trace : trace_part rest ≡ trace_part (drop n rest) =
    ap (λ ls. option_map concat (behind_marker ls)) line
    ∙ ap (option_map concat) (marker_behind (lines (drop n rest)) (is_marker (take n rest)) other) in
    record {
      text =
          so.text ∙ ap (λ xs. take at input ++ xs) text ∙ sym (append_assoc (take at input) (take n rest) (text_part (drop n rest)))
          ∙ ap (λ xs. xs ++ text_part (drop n rest)) (sym (take-add at n input)) ∙ ap (λ xs. take (at + n) input ++ text_part xs) further;
      trace = so.trace ∙ trace ∙ ap trace_part further;
    }

-- at the marker the text ends
pub cut_text : (input : List ℕ) (at n : ℕ) → IsCutUpTo input at → BeginsWithLine (drop at input) n
    → is_marker (take n (drop at input)) ≡ true → take at input ≡ text_part input
cut_text input at n so line marker =
    let rest = drop at input in
    let none : text_part rest ≡ [] =
    ap (λ ls. concat (before_marker ls)) line ∙ text_ended (take n rest) (lines (drop n rest)) (is_marker (take n rest)) marker in
    sym (so.text ∙ ap (λ xs. take at input ++ xs) none ∙ append-nil (take at input))

-- and the trace begins behind it
pub cut_trace : (input : List ℕ) (at n : ℕ) → IsCutUpTo input at → BeginsWithLine (drop at input) n
    → is_marker (take n (drop at input)) ≡ true → Some (drop (at + n) input) ≡ trace_part input
cut_trace input at n so line marker =
    let rest = drop at input in
    let found : trace_part rest ≡ Some (concat (lines (drop n rest))) =
    ap (λ ls. option_map concat (behind_marker ls)) line
    ∙ ap (option_map concat) (trace_follows (lines (drop n rest)) (is_marker (take n rest)) marker) in
    sym (so.trace ∙ found ∙ ap Some (joined_lines (drop n rest) ∙ drop-drop n at input))

-- a slice to the end is what is left
to_end : (input : List ℕ) (k : ℕ) → take (length input - k) (drop k input) ≡ drop k input
to_end input k = take_all (length input - k) (drop k input) (omega (arith, length-drop k input))

-- the loop's slices are the rest and its first line
slices : (input : List ℕ) (at n : ℕ) (b : Bool) → is_marker (take (at + n - at) (drop at input)) ≡ b → is_marker (take n (drop at input)) ≡ b
slices input at n b h = let same : n ≡ at + n - at = omega arith in ap (λ k. is_marker (take k (drop at input))) same ∙ h

-- so a line that isn't the marker is passed by the loop
pub loop_goes_on : (input : List ℕ) (at n : ℕ) → IsCutUpTo input at → BeginsWithLine (take (length input - at) (drop at input)) n
    → is_marker (take (at + n - at) (drop at input)) ≡ false → IsCutUpTo input (at + n)
loop_goes_on input at n so line other =
    cut_goes_on input at n so (subst (λ xs. BeginsWithLine xs n) (to_end input at) line) (slices input at n false other)

-- and the marker ends it with the trace
pub loop_finds : (input : List ℕ) (at n : ℕ) → IsCutUpTo input at → BeginsWithLine (take (length input - at) (drop at input)) n
    → is_marker (take (at + n - at) (drop at input)) ≡ true → Some (take (length input - (at + n)) (drop (at + n) input)) ≡ trace_part input
loop_finds input at n so line marker =
    ap Some (to_end input (at + n))
    ∙ cut_trace input at n so (subst (λ xs. BeginsWithLine xs n) (to_end input at) line) (slices input at n true marker)

-- without a marker all is text
pub all_text : (input : List ℕ) (at : ℕ) → IsCutUpTo input at → length input ≤ at → input ≡ text_part input
all_text input at so ended =
    sym (so.text ∙ ap (λ xs. take at input ++ text_part xs) (drop_all at input ended) ∙ append-nil (take at input) ∙ take_all at input ended)

-- and there is no trace
pub no_trace : (input : List ℕ) (at : ℕ) → IsCutUpTo input at → length input ≤ at → None ≡ trace_part input
no_trace input at so ended = sym (so.trace ∙ ap trace_part (drop_all at input ended))
