-- The words of a seed, one after the other. The generator is PCG XSL RR 128/64 (O'Neill, 2014), and the bytes of its
-- state come from the seed by words of PCG XSH RR 64/32.
use Rattle.std.specs.Prelude.{ℕ, zero, suc}
use Rattle.rand_core.specs.Pcg32Seed.{pcg32_seed}
use Rattle.rand_pcg.specs.Lcg.{Lcg}
use Rattle.rand_pcg.specs.Pcg.{pcg64, pcg64_of_seed}

-- the generator of a seed after it has given this many words
unfoldable pub generator_after : ℕ → ℕ → Lcg
generator_after seed zero = pcg64_of_seed (pcg32_seed 32 seed)
generator_after seed (suc words) = (pcg64 (generator_after seed words)).1

-- the word of a seed with this number, counted from 0
unfoldable pub word_of : ℕ → ℕ → ℕ
word_of seed number = (pcg64 (generator_after seed number)).0
