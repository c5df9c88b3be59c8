-- P1 to P10 hold: the rules compute what the cases expect. So do those of the limit on unblocking and of the writer. And the sample image
-- loads as the sample card.
use mathlib.Core.Path.{refl}
use Rattle.octets.specs.Octets.{blank, filled, good_room}
use Rattle.pkcs1.specs.Pkcs1.{padded, cannot_pad, pad, before_zero, enciphered, strip}
use Rattle.rules.specs.Codes.{least, allowed, lowered}
use Rattle.rules.specs.Keys.{of_class, present, active_key, key_for}
use Rattle.rules.specs.Session.{new_session}
use Rattle.rules.specs.Files.{files_in, certificate_of, puk_record, pin_record, counter_record, personal_record}
use Rattle.rules.specs.Files.{record_count, record_of}
use Rattle.rules.specs.State.{good_code, good_codes, good_counts, good_references, good_records, good_profile, good_selection}
use Rattle.rules.specs.State.{good_environment, good_job, good_session, good}
use Rattle.rules.specs.Apdu.{parse}
use Rattle.rules.specs.Answers.{more_bytes, give}
use Rattle.rules.specs.FileCommands.{select, read_record, read_status, read_binary, get_response}
use Rattle.rules.specs.CodeCommands.{verdict, judged, queried, verify, replaced, change}
use Rattle.rules.specs.CodeCommands.{unblocked, unblock_by_verified_puk, unblock_by_presented_puk, reset_retry, counts_left}
use Rattle.rules.specs.Digests.{prefixed, is_digest}
use Rattle.rules.specs.KeyCommands.{set_environment, kind_chosen, choose_key, internal_authenticate, sign, decipher}
use Rattle.rules.specs.Judgement.{instruction, parameters, lengths, own_rules, known_instruction, named_in}
use Rattle.rules.specs.Judgement.{judge_named, judge_header, judge_form, judge}
use Rattle.rules.specs.Delivery.{deliver}
use Rattle.rules.specs.Edge.{response_in, written, command, delivery, power_reset}
use Rattle.rules.specs.Image.{byte_if, bytes_if, read_code, code_section, read_key, read_keys, key_section}
use Rattle.rules.specs.Image.{reference_section, read_personal, read_records, personal_section, count_section}
use Rattle.rules.specs.Image.{read_counts, end, read_card, loaded, load}
use Rattle.rules.specs.Writer.{code_image, codes_image, keys_among, key_bytes, keys_image, references_image, record_image, records_image}
use Rattle.rules.specs.Writer.{personal_image, counts_image, image_of, write}
use Rattle.rules.specs.Counting.{step, returned_status, behind_records, count_at_load}
use Rattle.rules.specs.Sample.{sample_card, sample_image, SampleLoads}
use Rattle.rules.specs.Cases.{on_card, padding, cases, PCases, limited, LimitShown, writings, WritingsShown}

pub p_cases : PCases
unfolding cases on_card padding sample_card step command delivery power_reset written response_in returned_status good good_codes good_counts good_profile good_session good_code good_room good_references good_records good_selection good_environment good_job files_in present of_class active_key key_for new_session blank filled least allowed parse judge judge_form judge_header known_instruction instruction named_in parameters judge_named lengths own_rules verify change reset_retry counts_left lowered unblocked unblock_by_verified_puk unblock_by_presented_puk verdict judged queried replaced select read_record read_status read_binary get_response give more_bytes record_count record_of counter_record pin_record puk_record certificate_of set_environment kind_chosen choose_key internal_authenticate sign decipher is_digest prefixed padded cannot_pad pad deliver strip enciphered before_zero personal_record
p_cases = refl

pub limit_shown : LimitShown
unfolding limited on_card sample_card sample_image load loaded read_card code_section key_section reference_section personal_section read_code read_key read_keys read_records read_personal read_counts count_section end byte_if bytes_if count_at_load behind_records step command delivery power_reset written response_in returned_status good good_codes good_counts good_profile good_session good_code good_room good_references good_records good_selection good_environment good_job files_in present of_class active_key key_for new_session blank filled least allowed parse judge judge_form judge_header known_instruction instruction named_in parameters judge_named lengths own_rules verify change reset_retry counts_left lowered unblocked unblock_by_verified_puk unblock_by_presented_puk verdict judged queried replaced select read_record read_status read_binary get_response give more_bytes record_count record_of counter_record pin_record puk_record certificate_of set_environment kind_chosen choose_key internal_authenticate sign decipher is_digest prefixed padded cannot_pad pad deliver strip enciphered before_zero personal_record
limit_shown = record { runs = refl; loads = refl; counts = refl }

pub writings_shown : WritingsShown
unfolding writings sample_card sample_image step command written response_in reset_retry counts_left lowered unblock_by_presented_puk replaced unblocked allowed good good_codes good_counts good_profile good_session good_code good_room good_references good_records good_selection good_environment good_job files_in present of_class active_key new_session blank filled least parse judge judge_form judge_header known_instruction instruction named_in parameters judge_named lengths own_rules verify verdict judged select read_record give more_bytes record_count record_of counter_record pin_record puk_record personal_record write image_of codes_image code_image keys_image keys_among key_bytes references_image personal_image records_image record_image counts_image
writings_shown = record { returned = refl; buffers = refl }

pub sample_loads : SampleLoads
unfolding load loaded read_card code_section key_section reference_section personal_section read_code read_key read_keys read_records read_personal read_counts count_section end byte_if bytes_if sample_image sample_card least filled blank new_session present of_class active_key
sample_loads = refl
