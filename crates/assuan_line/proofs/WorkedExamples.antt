-- What is read of the longest line, and of one that is longer.
use Rattle.std.specs.Prelude.{◌≡◌, [], ◌∷◌, ◌++◌, replicate, refl}
use Rattle.assuan_line.specs.{Next.next_of, declared.reader.Took.TheVariants.{Line, TooLong, End}}

longest : next_of (replicate 1000 120 ++ 10 ∷ []) ≡ Line (replicate 1000 120)
unfolding next_of
longest = refl

longest_with_return : next_of (replicate 1000 120 ++ 13 ∷ 10 ∷ []) ≡ Line (replicate 1000 120)
unfolding next_of
longest_with_return = refl

one_byte_more : next_of (replicate 1001 120 ++ 10 ∷ []) ≡ TooLong
unfolding next_of
one_byte_more = refl

undecided : next_of (replicate 1001 120) ≡ End
unfolding next_of
undecided = refl

decided : next_of (replicate 1002 120) ≡ TooLong
unfolding next_of
decided = refl
