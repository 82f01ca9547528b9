use Rattle.std.proofs.Common.{◌≡◌, ◌-◌, ◌≤◌, ◌<◌, ◌++◌, ℕ, List, All, Some, length, take}
use Rattle.std.specs.Prelude.{slice_get}
use Rattle.program_image.specs.Places.{word_addresses}
use Rattle.path_text.proofs.Wrote.{Wrote}
use Rattle.path_counts.specs.declared.targets.Target.{Target}
use Rattle.path_counts.specs.CountLines.{words_text}
use Rattle.path_counts.proofs.TextSteps.{words_left}
use Rattle.path_counts.proofs.count_lines.write_words.Given as goal

abbrev pub decreases-loop-addr : goal.decreases-loop-addr
decreases-loop-addr g l = length (word_addresses l.image) - l.place

abbrev pub invariant-loop-addr : goal.invariant-loop-addr
invariant-loop-addr g l =
    let state = g.K.Sink.state in
    record {
      within : l.place ≤ length (word_addresses l.image);
      next : l.next ≤ length l.entries;
      before : (k a : ℕ) → l.place ≤ k → slice_get (word_addresses l.image) k ≡ Some a → All (λ (e : Target). e.from < a) (take l.next l.entries);
      so_far : (text : List ℕ) × Wrote (state l.fn.sink) (state l.sink) text
          × (text ++ words_left (word_addresses l.image) l.visits l.taken l.entries l.place ≡ words_text (word_addresses l.image) l.visits l.taken l.entries);
    }
