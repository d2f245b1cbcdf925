use Rattle.std.{proofs.Common.{◌≡◌, ◌^◌, ◌<◌, drop, fold, ◌+◌, ◌-◌, ◌*◌}, specs.Str.all_ascii_digits}
use Rattle.assuan_text.specs.Numbers.{decimal}
use Rattle.assuan_text.proofs.numbers.number_of.Given as goal

-- the digits that are left decide, and go on with the number
abbrev pub invariant-loop-byte : goal.invariant-loop-byte
invariant-loop-byte l =
    record {
      digits : all_ascii_digits (drop l.byte-index l.value) ≡ all_ascii_digits l.value;
      value : fold (λ number digit. 10 * number + (digit - 48)) l.number (drop l.byte-index l.value) ≡ decimal l.value;
      small : l.number < 10 ^ l.byte-index;
    }
