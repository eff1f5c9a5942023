-- What the parser makes of the program's commands, wherever the words lie that their options take.
use Rattle.std.proofs.Common.{◌≡◌, ◌∙◌, true, List, [], ◌∷◌, map, refl, sym, ap, ap₂, Bor}
use Rattle.clap.specs.Words.{Text, fault_of, is_simple, subcommand_of}
use Rattle.clap.specs.Faults.{is_simple_and_free}
use Rattle.clap.specs.Simple.{argument_words, built}
use Rattle.clap.specs.Walk.{nothing_held}
use Rattle.clap.proofs.OnLiterals.{clap_on_literals}
use Rattle.ra_arguments.specs.Application.{HasWords, WordList, ending_words, policy_words, program_with, ra_app, word_list}
use Rattle.ra_arguments.proofs.Places.{fault_same, stop_same, unplaced}

moved : WordList → WordList
moved words = record { ref_ptr = (0, 0); now = map unplaced words.now }

moved_texts : (words : List (Bor Text)) → map unplaced words ≡ map (λ text. record { ref_ptr = (0, 0); now = text }) (map (λ word. word.now) words)
moved_texts [] = refl
moved_texts (word ∷ words) = ap (λ (rest : List (Bor Text)). unplaced word ∷ rest) (moved_texts words)

listed : (words : WordList) (texts : List Text) → HasWords words texts → moved words ≡ word_list texts
unfolding moved
listed words texts has = ap (λ (list : List (Bor Text)). record { ref_ptr = (0, 0); now = list })
    (moved_texts words.now ∙ ap (map (λ text. record { ref_ptr = (0, 0); now = text })) has)

module _ (policies endings : WordList) where
  pub simple : is_simple (program_with policies endings) ≡ true
  unfolding clap_on_literals
  simple = refl

  pub simple_and_free : is_simple_and_free (program_with policies endings) ≡ true
  unfolding clap_on_literals
  simple_and_free = refl

  pub same_refusals : HasWords policies policy_words → HasWords endings ending_words → (arguments : List Text)
      → fault_of (program_with policies endings) arguments ≡ fault_of ra_app arguments
  unfolding moved
  same_refusals first second arguments =
      sym (fault_same (built (program_with policies endings)) nothing_held (argument_words (program_with policies endings) arguments))
      ∙ ap₂ (λ p e. fault_of (program_with p e) arguments) (listed policies policy_words first) (listed endings ending_words second)

  pub same_command : HasWords policies policy_words → HasWords endings ending_words → (arguments : List Text)
      → subcommand_of (program_with policies endings) arguments ≡ subcommand_of ra_app arguments
  unfolding moved
  same_command first second arguments =
      sym (stop_same (built (program_with policies endings)) (argument_words (program_with policies endings) arguments))
      ∙ ap₂ (λ p e. subcommand_of (program_with p e) arguments) (listed policies policy_words first) (listed endings ending_words second)
